-- A decoded block has as many marks as operations, and what is marked is a Noop: its marks and its own list say its operations. Assumes nothing.
use mathlib.Core.Path.{◌≡◌, refl, sym, ap, ap₂, ◌∙◌}
use mathlib.Core.List.{List, [], ◌∷◌, ◌++◌}
use mathlib.Core.Bool.{Bool, true, false, cond, not}
use Prim.Native.Nat.{ℕ, zero, suc, ◌+◌, ◌≤◌}
use native.Mathlib.Nat.{zero-add}
use native.Mathlib.Omega.{arith}
use borrow.Author.Tests.{ltb-false, eqb-true, ne_eqb, not-false}
use lib.ListN.{length, take, drop, length-take, length-drop}
use lib.Seq.{take_all, take-add, drop-drop}
use lib.Dec.{ltb, eqb}
use Rattle.rules.specs.Lists.{fitted, total, All}
use Rattle.rules.specs.Answer.{found}
use Rattle.rules.specs.Operations.{Op, noop, good_table, admissible}
use Rattle.rules.specs.Record.{Record, Block, starts_from, part, cut, record_by}
use Rattle.rules.specs.Checks.{ninth, ends_in_noop, padding_right}
use Rattle.rules.specs.Block.{Room, placings_fault, numbers_from, count_from, batch_at}
use Rattle.rules.specs.Lookups.{marks_in, marks_of, marks}
use Rattle.rules.specs.Functions.{decoded}
use Rattle.rules.specs.Strict.{unmarked}
use Rattle.rules.proofs.Answer.{settle, no_fault}
use Rattle.rules.proofs.Operations.{to_admissible, noop_kind, true_left, true_right}
use Rattle.rules.proofs.Slots.{slots, batch_by, batch_is, batch_by_batch, batches_is}
use Rattle.claims.proofs.Found.{passed, came, Found, stages}
use Rattle.claims.proofs.WrittenThenRead.{sizes_of, differences_starts}
use Rattle.claims.proofs.ReadThenChecked.{Sizes, Bits, laid, laid_front, ninth_is, nibbles_made, flags_made, part_allowed, Encodable, encodable}

-- ---- marks that fit operations: as many, and what is marked is a Noop

abbrev pub Fit : List Bool → List Op → Type 0
Fit [] [] = Unit {0}
Fit [] (x ∷ xs) = ⊥
Fit (m ∷ ms) [] = ⊥
Fit (true ∷ ms) (x ∷ xs) = (x ≡ noop) × Fit ms xs
Fit (false ∷ ms) (x ∷ xs) = Fit ms xs

fit_append : (ms ns : List Bool) (xs ys : List Op) → Fit ms xs → Fit ns ys → Fit (ms ++ ns) (xs ++ ys)
fit_append [] ns [] ys h k = k
fit_append [] ns (x ∷ xs) ys h k = elim h [ ]
fit_append (true ∷ ms) ns [] ys h k = elim h [ ]
fit_append (false ∷ ms) ns [] ys h k = elim h [ ]
fit_append (true ∷ ms) ns (x ∷ xs) ys h k = (h.0, fit_append ms ns xs ys h.1 k)
fit_append (false ∷ ms) ns (x ∷ xs) ys h k = fit_append ms ns xs ys h k

pub fit_length : (ms : List Bool) (xs : List Op) → Fit ms xs → length ms ≡ length xs
fit_length [] [] h = refl
fit_length [] (x ∷ xs) h = elim h [ ]
fit_length (true ∷ ms) [] h = elim h [ ]
fit_length (false ∷ ms) [] h = elim h [ ]
fit_length (true ∷ ms) (x ∷ xs) h = ap suc (fit_length ms xs h.1)
fit_length (false ∷ ms) (x ∷ xs) h = ap suc (fit_length ms xs h)

-- marks and own list say the operations
pub fit_once : (ms : List Bool) (xs ys : List Op) → Fit ms xs → Fit ms ys → unmarked ms xs ≡ unmarked ms ys → xs ≡ ys
fit_once [] xs ys h k e = e
fit_once (true ∷ ms) [] ys h k e = elim h [ ]
fit_once (false ∷ ms) [] ys h k e = elim h [ ]
fit_once (true ∷ ms) (x ∷ xs) [] h k e = elim k [ ]
fit_once (false ∷ ms) (x ∷ xs) [] h k e = elim k [ ]
fit_once (true ∷ ms) (x ∷ xs) (y ∷ ys) h k e = ap₂ (λ (z : Op) (l : List Op). z ∷ l) (h.0 ∙ sym k.0) (fit_once ms xs ys h.1 k.1 e)
fit_once (false ∷ ms) (x ∷ xs) (y ∷ ys) h k e =
    let a : x ≡ y = cc in
    let b : unmarked ms xs ≡ unmarked ms ys = cc in
    ap₂ (λ (z : Op) (l : List Op). z ∷ l) a (fit_once ms xs ys h k b)

-- what holds of all operations holds of the own list
pub unmarked_all : (P : Op → Type 0) (ms : List Bool) (xs : List Op) → All P xs → All P (unmarked ms xs)
unmarked_all P [] xs h = h
unmarked_all P (m ∷ ms) [] h = tt
unmarked_all P (true ∷ ms) (x ∷ xs) h = unmarked_all P ms xs h.1
unmarked_all P (false ∷ ms) (x ∷ xs) h = (h.0, unmarked_all P ms xs h.1)

-- ---- decoded batches

-- the batch of these sizes and flags, in the operations from a place on
abbrev pub record_from : ℕ → List ℕ → List Op → ℕ → List ℕ → List ℕ → Record
record_from w t xs at ns fs =
    record { starts = starts_from 0 ns; flags = fs; numbers = fitted 8 (numbers_from t [] (cut (take w ns) xs at)); count = count_from t 0 0 (cut (take w ns) xs at) }

-- r is that batch for its own sizes and flags, and its marks fit its operations
pub record Step (w : ℕ) (t : List ℕ) (xs : List Op) (at : ℕ) (r : Record) : Type 0 where
  pub is : record_from w t xs at (sizes_of r) r.flags ≡ r
  pub inside : at + total (sizes_of r) ≤ length xs
  pub ninth : ninth r ≡ total (sizes_of r)
  pub fit : Fit (marks_of (sizes_of r) r.flags) (part (total (sizes_of r)) xs at)

-- and so for batches one after another
abbrev pub Walk : ℕ → List ℕ → List Op → ℕ → List Record → Type 0
Walk w t xs at [] = Unit {0}
Walk w t xs at (r ∷ rs) = Step w t xs at r × Walk w t xs (at + total (sizes_of r)) rs

-- how many operations batches have
abbrev span : List Record → ℕ
span [] = 0
span (r ∷ rs) = total (sizes_of r) + span rs

pub part_add : (xs : List Op) (n m at : ℕ) → part (n + m) xs at ≡ part n xs at ++ part m xs (at + n)
part_add xs n m at = take-add n m (drop at xs) ∙ ap (λ (l : List Op). part n xs at ++ take m l) (drop-drop n at xs)

walk_fit : (w : ℕ) (t : List ℕ) (xs : List Op) (at : ℕ) (rs : List Record) → Walk w t xs at rs → Fit (marks rs) (part (span rs) xs at)
unfolding marks
walk_fit w t xs at [] h = tt
walk_fit w t xs at (r ∷ rs) h =
    let n = total (sizes_of r) in
    rw (part_add xs n (span rs) at)
    (fit_append (marks_of (sizes_of r) r.flags) (marks rs) (part n xs at) (part (span rs) xs (at + n)) h.0.fit (walk_fit w t xs (at + n) rs h.1))

module _ (t : List ℕ) (table : good_table t ≡ true) where
  abbrev Allowed : List Op → Type 0
  Allowed xs = All (λ x. admissible t x ≡ true) xs

  op_same : (x y : Op) → x.code ≡ y.code → x.value ≡ y.value → x ≡ y
  op_same x y e f = ap₂ (λ (c : ℕ) (v : ℕ). record { code = c; value = v }) e f

  is_noop : (x : Op) → admissible t x ≡ true → eqb x.code 0 ≡ true → x ≡ noop
  unfolding noop
  is_noop x h e =
      let c = eqb-true x.code 0 e in
      op_same x (record { code = 0; value = 0 }) c ((to_admissible t x h).plain (rw c (noop_kind t table)))

  group_fit : (g : List Op) (f : ℕ) → Allowed g → cond (eqb f 0) true (ends_in_noop g) ≡ true → Fit (marks_in (length g) f) g
  unfolding marks_in ends_in_noop
  group_fit [] f a h = tt
  group_fit (x ∷ []) zero a h = tt
  group_fit (x ∷ []) (suc zero) a h = (is_noop x a.0 h, tt)
  group_fit (x ∷ []) (suc (suc f)) a h = rw (ne_eqb (suc (suc f)) 1 (λ z. omega arith)) tt
  group_fit (x ∷ y ∷ g) f a h = group_fit (y ∷ g) f a.1 h

  module _ (xs : List Op) (allowed : Allowed xs) where
    part_length : (n at : ℕ) → at + n ≤ length xs → length (part n xs at) ≡ n
    part_length n at h = simp (length-take, length-drop) (omega arith)

    part_fit : (n f at : ℕ) → at + n ≤ length xs → cond (eqb f 0) true (ends_in_noop (part n xs at)) ≡ true → Fit (marks_in n f) (part n xs at)
    part_fit n f at l h = rw (part_length n at l) at (group_fit (part n xs at) f (part_allowed t n xs at allowed) h)

    -- groups from the c-th on are empty, so that their flags mark nothing
    sizes_fit : (ns fs : List ℕ) (c at : ℕ) → length ns ≡ length fs → total (drop c ns) ≡ 0 → at + total ns ≤ length xs → padding_right (take c (cut ns xs at)) fs ≡ true
        → Fit (marks_of ns fs) (part (total ns) xs at)
    unfolding total cut padding_right marks_of marks_in
    sizes_fit [] fs c at l z i h = tt
    sizes_fit (n ∷ ns) [] c at l z i h = absurd (omega arith)
    sizes_fit (zero ∷ ns) (f ∷ fs) zero at l z i h = rw zero-add (sizes_fit ns fs 0 at (omega arith) (omega arith) (omega arith) refl)
    sizes_fit (suc n ∷ ns) (f ∷ fs) zero at l z i h = absurd (omega arith)
    sizes_fit (n ∷ ns) (f ∷ fs) (suc c) at l z i h =
        let g = cond (eqb f 0) true (ends_in_noop (part n xs at)) in
        let r = padding_right (take c (cut ns xs (at + n))) fs in
        rw (part_add xs n (total ns) at)
        (fit_append (marks_in n f) (marks_of ns fs) (part n xs at) (part (total ns) xs (at + n)) (part_fit n f at (omega arith) (true_left g r h))
        (sizes_fit ns fs c (at + n) (omega arith) z (omega arith) (true_right g r h)))

    module _ (w : ℕ) where
      -- a batch that decode took
      batch_fit : (at b : ℕ) (ns fs : List ℕ) (r : Record) (next : ℕ) → Sizes w ns → Bits w fs → batch_at w t xs at b ns fs ≡ found r next → Fit (marks_of ns fs) (part (total ns) xs at)
      unfolding batch_by
      batch_fit at b ns fs r next z f h =
          let a = passed (ltb (length xs) (at + total ns)) 7 b _ r next (sym (batch_is w t xs at b ns fs z.high) ∙ h) in
          let d = came (slots t b (take w ns) [] xs at) _ r next a.1 in
          let vs = d.got in
          let e = passed (not (padding_right (take (length vs) (cut ns xs at)) fs)) 10 b _ r next d.rest in
          let l = laid_front w ns at vs d.to z.high (laid t b (take w ns) [] xs at vs d.to d.first) in
          sizes_fit ns fs (length vs) at (omega (arith, z.many, f.many)) l.rest (ltb-false (length xs) (at + total ns) a.0) (not-false _ e.0)

      step_by : (at : ℕ) (ns fs : List ℕ) → Sizes w ns → at + total ns ≤ length xs → Fit (marks_of ns fs) (part (total ns) xs at) → Step w t xs at (record_from w t xs at ns fs)
      unfolding record_by
      step_by at ns fs z i f = let e = differences_starts 0 ns in record { is = rw e; inside = rw e i; ninth = rw e (ninth_is w ns fs [] z); fit = rw e f }

      step_made : (at b : ℕ) (ns fs : List ℕ) (r : Record) (next : ℕ) → Sizes w ns → Bits w fs → batch_at w t xs at b ns fs ≡ found r next → Step w t xs at r × (next ≡ at + total (sizes_of r))
      unfolding batch_at
      step_made at b ns fs r next z f h =
          let gs = cut (take w ns) xs at in
          let a = passed (ltb (length xs) (at + total ns)) 7 b _ r next h in
          let d = no_fault b (placings_fault t gs ∷ []) _ (record { item = r; next = next }) a.1 in
          let e = passed (not (padding_right (take (count_from t 0 0 gs) gs) fs)) 10 b _ r next d.1 in
          settle (λ r next. Step w t xs at r × (next ≡ at + total (sizes_of r))) (record_from w t xs at ns fs) r (at + total ns) next e.1
          (step_by at ns fs z (ltb-false (length xs) (at + total ns) a.0) (batch_fit at b ns fs r next z f h), rw (differences_starts 0 ns))

      walk_more : (at to next : ℕ) (r : Record) (rs : List Record) → Step w t xs at r × (to ≡ at + total (sizes_of r)) → Walk w t xs to rs × (next ≡ to + span rs)
          → Walk w t xs at (r ∷ rs) × (next ≡ at + span (r ∷ rs))
      walk_more at to next r rs one more = ((one.0, rw one.1 at more.0), omega (arith, one.1, more.1))

      walk_made : (nss fss : List (List ℕ)) (at b : ℕ) (rs : List Record) (next : ℕ) → length nss ≡ length fss → All (Sizes w) nss → All (Bits w) fss
          → batch_by_batch w t xs at b nss fss ≡ found rs next → Walk w t xs at rs × (next ≡ at + span rs)
      unfolding batch_by_batch
      walk_made [] fss at b rs next l z f h = settle (λ rs next. Walk w t xs at rs × (next ≡ at + span rs)) [] rs at next h (tt, omega arith)
      walk_made (ns ∷ nss) [] at b rs next l z f h = absurd (omega arith)
      walk_made (ns ∷ nss) (fs ∷ fss) at b rs next l z f h =
          let a = came (batch_at w t xs at b ns fs) _ rs next h in
          let d = came (batch_by_batch w t xs a.to (b + 1) nss fss) _ rs next a.rest in
          let one = step_made at b ns fs a.got a.to z.0 f.0 a.first in
          let ih = walk_made nss fss a.to (b + 1) d.got d.to (omega arith) z.1 f.1 d.first in
          settle (λ rs next. Walk w t xs at rs × (next ≡ at + span rs)) (a.got ∷ d.got) rs d.to next d.rest (walk_more at a.to d.to a.got d.got one ih)

-- a decoded block is such a walk, and its marks fit its operations
module _ (w : ℕ) (t s : List ℕ) (at : ℕ) (room : Room) (blk : Block) (next : ℕ) (h : decoded w t s at room ≡ found blk next) where
  walked : Walk w t blk.ops 0 blk.records × (length blk.ops ≤ span blk.records)
  walked = go (stages w t s at room blk next h) (encodable w t s at room blk next h)
    where
      go : Found w t s at room blk next → Encodable w t blk → Walk w t blk.ops 0 blk.records × (length blk.ops ≤ span blk.records)
      go f e =
          let i = f.items in
          let l = f.layout in
          let q₁ = nibbles_made s w f.k f.a₁ 0 l.sizes i.a₁ i.sizes in
          let q₂ = flags_made s w f.k i.a₁ 0 l.flags next i.flags in
          let m = q₁.0 ∙ sym q₂.0 in
          let g = walk_made t f.table blk.ops e.allowed w l.sizes l.flags 0 0 blk.records f.used m q₁.1 q₂.1 (sym (batches_is w t blk.ops l.sizes l.flags m) ∙ f.records.batches) in
          (g.0, omega (arith, g.1, f.records.all))

  pub decoded_walk : Walk w t blk.ops 0 blk.records
  decoded_walk = walked.0

  pub decoded_fit : Fit (marks blk.records) blk.ops
  decoded_fit = rw (take_all (span blk.records) blk.ops walked.1) at (walk_fit w t blk.ops 0 blk.records walked.0)
