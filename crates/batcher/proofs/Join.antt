-- Operations that join the current group with nothing closed: what `step` does to each is what the fast path does. `w` is the width.
-- Assumes nothing.
use mathlib.Core.Path.{◌≡◌, refl, sym, ap, ◌∙◌, subst}
use mathlib.Core.Bool.{Bool, true, false, cond, not}
use mathlib.Core.List.{List}
use Prim.Native.Nat.{ℕ, zero, suc, ◌+◌, ◌-◌, ◌*◌, ◌≤◌, ◌<◌}
use native.Mathlib.Nat.{add-zero}
use native.Mathlib.Omega.{arith}
use borrow.Author.Tests.{ltb-true, lt-ltb, lt-leb, eq-eqb, ne_eqb}
use lib.ListN.{length, get_or, set}
use lib.Dec.{ltb, eqb}
use Rattle.op_batch.specs.Stores.{number_set}
use Rattle.rules.specs.Operations.{assigned, valued, field, value_right, admissible, op_fault}
use Rattle.rules.specs.Functions.{Arena, arena}
use Rattle.rules.proofs.Operations.{op, kind_at, fault_none, Admissible, admitted}
use Rattle.accumulator.specs.declared.OpBatchAccumulator.{OpBatchAccumulator}
use Rattle.batcher.specs.declared.Work.{Work}
use Rattle.accumulator.specs.Good.{record_groups}
use Rattle.accumulator.specs.Model.{fits_in, crosses, slotted_acc, slotted_run, joined_acc, ready_acc, ready_run, added_acc, added_run}
use Rattle.batcher.specs.Model.{room_work, room_run, stepped_work, stepped_run, last_place, kept_run, last_imm, taken_work, Joins}
use Rattle.batcher.specs.Going.{Going}
use Rattle.batcher.proofs.InHand.{held_kept, stepped_runs, going_turn}

-- ---- what the tests of the fast path say

value_fine : (kind v : ℕ) → kind ≤ 1 → v ≤ kind * 18446744069414584320 → cond (not (eqb kind 0)) (ltb v field) (eqb v 0) ≡ true
value_fine zero v h k = eq-eqb v 0 (omega arith)
value_fine (suc zero) v h k = lt-ltb v field (omega arith)
value_fine (suc (suc n)) v h k = absurd (omega arith)

pub fine : (t : List ℕ) (c v : ℕ) → length t ≡ 128 → c < 128 → get_or t c 0 ≤ 1 → v ≤ get_or t c 0 * 18446744069414584320 → op_fault t (op c v) ≡ 0
unfolding admissible assigned value_right valued
fine t c v l h k m =
    let e = kind_at t c (omega arith) in
    fault_none t (op c v) (rw (e, lt-ltb c 128 h, lt-ltb (get_or t c 0) 3 (omega arith)) (value_fine (get_or t c 0) v k m))

pub joins_small : {w : ℕ} {t : List ℕ} {c v next left k : ℕ} → Joins w t c v next left k → c < 128
joins_small {w} {t} {c} {v} j = (admitted t (op c v) j.fine).code

-- ---- one step

-- the accumulator with an operation that has joined, and the slots that its immediate has taken
abbrev here_acc : ℕ → ℕ → OpBatchAccumulator → OpBatchAccumulator
here_acc c k a =
    record { cur = a.cur; next = a.next + k; inside = a.inside + 1; number = a.number + c * a.unit; unit = a.unit * 128; total = a.total + 1; tail = eqb k 1 }

-- it fits, and crosses into no new group
here_tests : (w k : ℕ) (a : OpBatchAccumulator) → a.next + k ≤ w → a.inside + k < 9 → k < 2 → (fits_in w (eqb k 1) a ≡ true) × (crosses (eqb k 1) a ≡ false)
here_tests w zero a o h b = (rw (lt-ltb a.inside 9 (omega arith)), lt-leb 9 a.inside (omega arith))
here_tests w (suc zero) a o h b = (rw (lt-ltb a.inside 8 (omega arith)) (lt-ltb a.next w (omega arith)), lt-leb 8 a.inside (omega arith))
here_tests w (suc (suc n)) a o h b = absurd (omega arith)

-- what a step then is
module _ (w : ℕ) (imm : Bool) (s : Work) (f : fits_in w imm s.acc ≡ true) (o : crosses imm s.acc ≡ false) where
  stays_work : (c : ℕ) → stepped_work w c imm s ≡ record { acc = joined_acc c imm (cond imm (slotted_acc s.acc) s.acc); base = s.base; batches = s.batches }
  unfolding stepped_work room_work added_acc ready_acc
  stays_work c = rw (f, o)

  stays_run : (v : ℕ) (xs : List ℕ) → stepped_run w imm v s xs ≡ cond imm (slotted_run v s.batches s.acc xs) xs
  unfolding stepped_run room_work room_run added_run ready_acc ready_run
  stays_run v xs = rw (f, o)

here_acc_lem : (c k : ℕ) (a : OpBatchAccumulator) → k < 2 → joined_acc c (eqb k 1) (cond (eqb k 1) (slotted_acc a) a) ≡ here_acc c k a
unfolding joined_acc slotted_acc
here_acc_lem c zero a b = rw (add-zero a.next)
here_acc_lem c (suc zero) a b = refl
here_acc_lem c (suc (suc n)) a b = absurd (omega arith)

-- what is kept is the immediate, or 0 where 0 is
here_run : (k v nb : ℕ) (a : OpBatchAccumulator) (xs : List ℕ) → a.next + k ≤ record_groups → k < 2 → (k ≡ 0 → v ≡ 0) → (a.next < record_groups → number_set nb a.next 0 xs ≡ xs)
    → kept_run v nb a.next xs ≡ cond (eqb k 1) (slotted_run v nb a xs) xs
unfolding kept_run slotted_run
here_run zero v nb a xs o b z f = rw (z refl) (go (ltb a.next record_groups) refl)
  where
    go : (x : Bool) → ltb a.next record_groups ≡ x → cond x (number_set nb a.next 0 xs) xs ≡ xs
    go true e = f (ltb-true a.next record_groups e)
    go false e = refl
here_run (suc zero) v nb a xs o b z f = rw (lt-ltb a.next record_groups (omega arith))
here_run (suc (suc n)) v nb a xs o b z f = absurd (omega arith)

-- ---- a turn of the fast path

module _ {w : ℕ} {e : Arena} {t xs ys : List ℕ} {i left k : ℕ} {s : Work} {a : Arena} (g : Going w e t xs ys i s a) (two : 2 ≤ w) (wide : w ≤ record_groups) (ht : length t ≡ 128) (j : Joins w t (get_or xs i 0) (get_or ys i 0) s.acc.next left k) (b : k < 2) (r : s.acc.inside + left ≤ 9) where
  abbrev c : ℕ
  c = get_or xs i 0

  abbrev v : ℕ
  v = get_or ys i 0

  ok : Admissible t (op c v)
  ok = admitted t (op c v) j.fine

  tests : (fits_in w (eqb k 1) s.acc ≡ true) × (crosses (eqb k 1) s.acc ≡ false)
  tests = here_tests w k s.acc j.slot (omega (arith, j.here)) b

  imm : eqb (get_or t c 0) 1 ≡ eqb k 1
  imm = ap (λ (n : ℕ). eqb n 1) j.kind

  abbrev here_work : Work
  here_work = record { acc = here_acc c k s.acc; base = s.base; batches = s.batches }

  work : stepped_work w c (eqb k 1) s ≡ here_work
  work = stays_work w (eqb k 1) s tests.0 tests.1 c ∙ ap (λ (x : OpBatchAccumulator). record { acc = x; base = s.base; batches = s.batches }) (here_acc_lem c k s.acc b)

  run : stepped_run w (eqb k 1) v s a.records ≡ kept_run v s.batches s.acc.next a.records
  run =
      stays_run w (eqb k 1) s tests.0 tests.1 v a.records
      ∙ sym (here_run k v s.batches s.acc a.records (omega (arith, j.slot)) b (λ z. ok.plain (kind_at t c (omega (arith, ok.code)) ∙ j.kind ∙ z)) (held_kept w e t g.work s a g.held wide))

  place : last_place (stepped_work w c (eqb k 1) s) ≡ s.base + s.acc.total
  place = ap last_place work ∙ omega arith

  pub going_join : {s' : Work} {a' : Arena} → i < length xs → i < length ys → s' ≡ here_work
      → a' ≡ arena (set a.codes (s.base + s.acc.total) c) (set a.values (s.base + s.acc.total) v) (kept_run v s.batches s.acc.next a.records)
      → Going w e t xs ys (i + 1) s' a'
  going_join hx hy e1 e2 =
      going_turn g two wide hx hy ht j.fine
      (e1 ∙ sym (ap (λ (x : Bool). stepped_work w c x s) imm ∙ work))
      (e2 ∙ sym (ap (λ (x : Bool). stepped_runs w (op c v) x s a) imm ∙ (λ l. arena (set a.codes (place l) c) (set a.values (place l) v) (run l))))

-- ---- the loop: n operations from the i-th on have joined

pub going_at : {w : ℕ} {e : Arena} {t xs ys : List ℕ} {i i' : ℕ} {s s' : Work} {a : Arena} → Going w e t xs ys i s a → i' ≡ i → s' ≡ s → Going w e t xs ys i' s' a
going_at {w} {e} {t} {xs} {ys} {i} {i'} {s} {s'} {a} g p q = subst (λ (x : ℕ × Work). Going w e t xs ys x.0 x.1 a) (λ l. (sym p l, sym q l)) g

module _ {w : ℕ} {e : Arena} {t xs ys : List ℕ} (s : Work) (i : ℕ) {a : Arena} where
  pub going_more : {left k : ℕ} {rs : List ℕ} (n next number unit : ℕ) → Going w e t xs ys (i + n) (taken_work t xs s i n next number unit) a → 2 ≤ w → w ≤ record_groups → length t ≡ 128
      → Joins w t (get_or xs (i + n) 0) (get_or ys (i + n) 0) next left k → k < 2 → s.acc.inside + n + left ≤ 9 → i + n < length xs → i + n < length ys
      → rs ≡ kept_run (get_or ys (i + n) 0) s.batches next a.records
      → Going w e t xs ys (i + (n + 1)) (taken_work t xs s i (n + 1) (next + k) (number + get_or xs (i + n) 0 * unit) (unit * 128))
      (arena (set a.codes (s.base + s.acc.total + n) (get_or xs (i + n) 0)) (set a.values (s.base + s.acc.total + n) (get_or ys (i + n) 0)) rs)
  going_more {left} {k} {rs} n next number unit g two wide ht j b r hx hy q =
      let c = get_or xs (i + n) 0 in
      let v = get_or ys (i + n) 0 in
      let up : i + (n + 1) ≡ i + n + 1 = omega arith in
      let at : s.base + s.acc.total + n ≡ s.base + (s.acc.total + n) = omega arith in
      let inside : s.acc.inside + (n + 1) ≡ s.acc.inside + n + 1 = omega arith in
      let total : s.acc.total + (n + 1) ≡ s.acc.total + n + 1 = omega arith in
      let last : i + (n + 1) - 1 ≡ i + n = omega arith in
      let tail : last_imm t xs s.acc.tail i (n + 1) ≡ eqb k 1 = rw (ne_eqb (n + 1) 0 (λ z. omega arith), last, j.kind) in
      going_at
      (going_join g two wide ht j b r hx hy
      (λ l. record { acc = record { cur = s.acc.cur; next = next + k; inside = inside l; number = number + c * unit; unit = unit * 128; total = total l; tail = tail l }; base = s.base; batches = s.batches })
      (λ l. arena (set a.codes (at l) c) (set a.values (at l) v) (q l)))
      up refl
