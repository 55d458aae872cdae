-- The commitment test of one batch: slots for immediates, group by group. Assumes nothing.
use mathlib.Core.Path.{◌≡◌, refl, sym, ap, ◌∙◌}
use mathlib.Core.Bool.{Bool, true, false, cond}
use mathlib.Core.List.{List, [], ◌∷◌}
use Prim.Native.Nat.{ℕ, zero, suc, ◌+◌, ◌-◌, ◌≤◌, ◌<◌, min}
use native.Mathlib.Numerals.{add-one}
use native.Mathlib.Omega.{arith}
use borrow.Author.Tests.{eq-eqb, ne_eqb}
use lib.ListN.{length, get_or, take, drop, length-take, length-drop}
use lib.Seq.{drop-cons, get_or-take, get_or-drop}
use lib.Dec.{eqb}
use Rattle.std.specs.Prelude.{◌↔◌}
use Rattle.rules.specs.Answer.{or_else}
use Rattle.rules.specs.Digits.{number}
use Rattle.rules.specs.Operations.{Op, operations, codes}
use Rattle.rules.specs.Record.{Record, differences, codes_number, cut, immediates}
use Rattle.rules.specs.Checks.{placing_fault, begins, groups_fault, empty_zero, under_count, commitment_fault}
use Rattle.rules.proofs.Operations.{length_operations, drop_operations, codes_operations}
use Rattle.op_batch.proofs.Right.{rise}
use Rattle.checks.specs.Batch.{held_at, Apt, under, span}
use Rattle.checks.proofs.Walk.{equal_lengths, few_codes}
use Rattle.checks.proofs.Passed.{checked}
use Rattle.checks.proofs.Groups.{Lying, laid, group, under_start, under_turn, under_none, within_codes}
use Rattle.commitment.specs.declared.Batch.{Batch}
use Rattle.commitment.specs.View.{arena_of, record_of, ops_of}

-- what a batch's record and operations are known to be
pub batch_lies : (k : Batch) → Lying (record_of k) k.block.arena.codes.now k.block.arena.values.now k.from
batch_lies k =
    let c = checked 8 k.block.arena.codes.now k.block.arena.values.now k.block.arena.records.now k.block.structure in
    record {
      laid = laid k.block.arena.records.now k.b (record { width = 8; room = omega arith; right = c.1.right k.b k.within });
      equal = equal_lengths k.block.arena.codes.now k.block.arena.values.now k.block.arena.records.now c.0;
      inside = k.inside;
    }

pub count_low : (k : Batch) → (record_of k).count ≤ 8
count_low k = (batch_lies k).laid.count

-- ---- the operations of a group, as they are lent

operations_take : (n : ℕ) (cs vs : List ℕ) → operations (take n cs) (take n vs) ≡ take n (operations cs vs)
unfolding operations
operations_take zero cs vs = refl
operations_take (suc n) [] vs = refl
operations_take (suc n) (c ∷ cs) [] = refl
operations_take (suc n) (c ∷ cs) (v ∷ vs) = ap (λ (xs : List Op). record { code = c; value = v } ∷ xs) (operations_take n cs vs)

pub lent : (cs vs : List ℕ) (i to : ℕ) → operations (take (to - i) (drop i cs)) (take (to - i) (drop i vs)) ≡ span (operations cs vs) i to
lent cs vs i to = operations_take (to - i) (drop i cs) (drop i vs) ∙ ap (take (to - i)) (sym (drop_operations i cs vs))

pub span_length : (cs vs : List ℕ) (i to : ℕ) → length cs ≡ length vs → to ≤ length cs → length (span (operations cs vs) i to) ≡ to - i
span_length cs vs i to e h =
    let n = length_operations cs vs e in
    simp (length-take, length-drop) (omega (arith, n))

-- where the g-th group lies, by the two starts
pub group_bounds : (k : Batch) (g : ℕ) → g < 8 → (start end : ℕ) → start ≡ get_or (record_of k).starts g 0 → end ≡ get_or (record_of k).starts (g + 1) 0
    → (start ≤ end) × (end ≤ start + 9) × (k.from + end ≤ length k.block.arena.codes.now) × (length k.block.arena.codes.now ≡ length k.block.arena.values.now) × (length k.block.arena.codes.now ≤ 65535)
group_bounds k g h start end a z =
    let x = batch_lies k in
    let c = checked 8 k.block.arena.codes.now k.block.arena.values.now k.block.arena.records.now k.block.structure in
    omega (arith, x.equal, few_codes k.block.arena.codes.now k.block.arena.values.now k.block.arena.records.now c.0, rise x.laid.width (record_of k) x.laid.sound x.laid.starts g h, within_codes (record_of k) k.block.arena.codes.now k.block.arena.values.now k.from x (g + 1) (omega arith))

-- ---- slots for immediates: the groups under the count from the j-th on

-- what a group that is not empty is known not to be
pub full_group : (b : Bool) (xs : List Op) → (b ≡ true ↔ xs ≡ []) → b ≡ false → xs ≡ [] → ⊥
full_group b xs h e z = let y : true ≡ false = sym (h.1 z) ∙ e in cc

parts : (xs : List Op) → (xs ≡ [] → ⊥) → (y : Op) × (ys : List Op) × (xs ≡ y ∷ ys)
parts [] f = absurd (f refl)
parts (y ∷ ys) f = (y, ys, refl)

module _ (r : Record) (cs vs : List ℕ) (from : ℕ) (x : Lying r cs vs from) (n : ℕ) (p : 0 < n) (j : ℕ) where
  one_more : n ≡ suc (n - 1)
  one_more = omega arith

  pub no_slot : r.count ≤ j → placing_fault n (under r (operations cs vs) from j) ≡ 8
  unfolding placing_fault
  no_slot h = rw (under_none r (operations cs vs) from j h, one_more)

  module _ (h : j < r.count) where
    pub slot_taken : (group r (operations cs vs) from j ≡ [] → ⊥) → placing_fault n (under r (operations cs vs) from j) ≡ 9
    unfolding placing_fault
    slot_taken f = let s = parts (group r (operations cs vs) from j) f in rw (under_turn r cs vs from x j h, s.2, one_more)

    pub slot_free : group r (operations cs vs) from j ≡ [] → placing_fault (n - 1) (under r (operations cs vs) from (j + 1)) ≡ placing_fault n (under r (operations cs vs) from j)
    unfolding placing_fault
    slot_free e = sym (ap (λ (m : ℕ). placing_fault m (under r (operations cs vs) from j)) one_more ∙ rw (under_turn r cs vs from x j h, e))

pub slots_done : (n : ℕ) (gs : List (List Op)) → n ≡ 0 → placing_fault n gs ≡ 0
unfolding placing_fault
slots_done n gs h = rw h

-- ---- group by group

pub first_fault : (p n : ℕ) → (p ≡ 0 → ⊥) → or_else p n ≡ p
first_fault zero n q = absurd (q refl)
first_fault (suc p) n q = refl

-- what is found from the g-th group on
unfoldable pub groups_left : List ℕ → Record → List Op → ℕ → ℕ → ℕ
groups_left t r xs from g = groups_fault t (under r xs from g) (drop g r.numbers)

-- the same of empty groups, where the next k of them hold immediates
unfoldable pub empty_left : List ℕ → Record → List Op → ℕ → ℕ → ℕ → Bool
empty_left t r xs from k g = empty_zero t k (under r xs from g) (drop g r.numbers)

module _ (t : List ℕ) (r : Record) (cs vs : List ℕ) (from : ℕ) (x : Lying r cs vs from) (g : ℕ) where
  pub groups_done : r.count ≤ g → groups_left t r (operations cs vs) from g ≡ 0
  unfolding groups_left groups_fault
  groups_done h = rw (under_none r (operations cs vs) from g h)

  pub empty_done : (k : ℕ) → r.count ≤ g → empty_left t r (operations cs vs) from k g ≡ true
  unfolding empty_left empty_zero
  empty_done k h = rw (under_none r (operations cs vs) from g h)

  -- a group under the count, of these operations
  module _ (h : g < r.count) (xs : List Op) (o : xs ≡ group r (operations cs vs) from g) where
    ahead : under r (operations cs vs) from g ≡ xs ∷ under r (operations cs vs) from (g + 1)
    ahead = rw o (under_turn r cs vs from x g h)

    number_ahead : drop g r.numbers ≡ get_or r.numbers g 0 ∷ drop (g + 1) r.numbers
    number_ahead = rw (add-one g) (drop-cons r.numbers g 0 (omega (arith, x.laid.numbers, x.laid.count)))

    module _ (e : xs ≡ []) where
      pub group_skip : groups_left t r (operations cs vs) from (g + 1) ≡ groups_left t r (operations cs vs) from g
      unfolding groups_left groups_fault
      group_skip = rw (ahead, number_ahead, e)

      pub empty_held : (k : ℕ) → 0 < k → empty_left t r (operations cs vs) from (k - 1) (g + 1) ≡ empty_left t r (operations cs vs) from k g
      unfolding empty_left empty_zero
      empty_held k p =
          let d : k ≡ suc (k - 1) = omega arith in
          sym (ap (λ (m : ℕ). empty_left t r (operations cs vs) from m g) d ∙ rw (ahead, number_ahead, e))

      pub empty_right : (k : ℕ) → k ≡ 0 → get_or r.numbers g 0 ≡ 0 → empty_left t r (operations cs vs) from k (g + 1) ≡ empty_left t r (operations cs vs) from k g
      unfolding empty_left empty_zero
      empty_right k d n = rw (d, ahead, number_ahead, e, eq-eqb (get_or r.numbers g 0) 0 n)

      pub empty_wrong : (k : ℕ) → k ≡ 0 → (get_or r.numbers g 0 ≡ 0 → ⊥) → empty_left t r (operations cs vs) from k g ≡ false
      unfolding empty_left empty_zero
      empty_wrong k d n = rw (d, ahead, number_ahead, e, ne_eqb (get_or r.numbers g 0) 0 n)

    module _ (f : xs ≡ [] → ⊥) where
      some : (y : Op) × (ys : List Op) × (xs ≡ y ∷ ys)
      some = parts xs f

      pub empty_skip : (k m : ℕ) → m ≡ length (immediates t xs) → empty_left t r (operations cs vs) from m (g + 1) ≡ empty_left t r (operations cs vs) from k g
      unfolding empty_left empty_zero
      empty_skip k m e = rw (e, ahead, number_ahead, some.2)

      full : groups_left t r (operations cs vs) from g
          ≡ or_else (cond (eqb (get_or r.numbers g 0) (codes_number xs)) 0 16)
          (or_else (placing_fault (length (immediates t xs)) (under r (operations cs vs) from (g + 1)))
          (or_else (cond (begins (drop (g + 1) r.numbers) (immediates t xs)) 0 16)
          (groups_left t r (operations cs vs) from (g + 1))))
      unfolding groups_left groups_fault
      full = rw (ahead, number_ahead, some.2)

      pub group_wrong : (get_or r.numbers g 0 ≡ codes_number xs → ⊥) → groups_left t r (operations cs vs) from g ≡ 16
      group_wrong n = full ∙ rw (ne_eqb (get_or r.numbers g 0) (codes_number xs) n)

      module _ (n : get_or r.numbers g 0 ≡ codes_number xs) (m : ℕ) (d : m ≡ length (immediates t xs)) where
        pub counted : groups_left t r (operations cs vs) from g
            ≡ or_else (placing_fault m (under r (operations cs vs) from (g + 1)))
            (or_else (cond (begins (drop (g + 1) r.numbers) (immediates t xs)) 0 16)
            (groups_left t r (operations cs vs) from (g + 1)))
        counted = full ∙ rw (eq-eqb (get_or r.numbers g 0) (codes_number xs) n, d)

        pub group_unplaced : (p : ℕ) → placing_fault m (under r (operations cs vs) from (g + 1)) ≡ p → (p ≡ 0 → ⊥) → groups_left t r (operations cs vs) from g ≡ p
        group_unplaced p e q = counted ∙ rw e (first_fault p _ q)

        module _ (e : placing_fault m (under r (operations cs vs) from (g + 1)) ≡ 0) where
          pub group_unequal : begins (drop (g + 1) r.numbers) (immediates t xs) ≡ false → groups_left t r (operations cs vs) from g ≡ 16
          group_unequal b = counted ∙ rw (e, b)

          pub group_right : begins (drop (g + 1) r.numbers) (immediates t xs) ≡ true → groups_left t r (operations cs vs) from (g + 1) ≡ groups_left t r (operations cs vs) from g
          group_right b = sym (counted ∙ rw (e, b))

-- where the walks begin
module _ (t : List ℕ) (r : Record) (cs vs : List ℕ) (from : ℕ) (x : Lying r cs vs from) where
  pub groups_begin : groups_left t r (operations cs vs) from 0 ≡ groups_fault t (take r.count (cut (differences r.starts) (operations cs vs) from)) r.numbers
  unfolding groups_left
  groups_begin = rw (under_start r cs vs from x)

  pub empty_begin : empty_left t r (operations cs vs) from 0 0 ≡ empty_zero t 0 (take r.count (cut (differences r.starts) (operations cs vs) from)) r.numbers
  unfolding empty_left
  empty_begin = rw (under_start r cs vs from x)

-- ---- a batch's fault

module _ (t : List ℕ) (k : Batch) where
  abbrev fault : ℕ
  fault = commitment_fault t (held_at (arena_of k) k.b k.from)

  abbrev all_groups : ℕ
  all_groups = groups_left t (record_of k) (ops_of k) k.from 0

  -- one of its groups'
  pub fault_at : (n : ℕ) → n ≡ all_groups → (n ≡ 0 → ⊥) → fault ≡ n
  unfolding commitment_fault
  fault_at n e f = rw (sym (groups_begin t (record_of k) k.block.arena.codes.now k.block.arena.values.now k.from (batch_lies k)) ∙ sym e) (first_fault n _ f)

  -- or that of its empty groups
  pub fault_last : all_groups ≡ 0 → (b : Bool) → b ≡ empty_zero t 0 (under_count (held_at (arena_of k) k.b k.from)) (record_of k).numbers → fault ≡ cond b 0 16
  unfolding commitment_fault
  fault_last e b d = rw (sym (groups_begin t (record_of k) k.block.arena.codes.now k.block.arena.values.now k.from (batch_lies k)) ∙ e, ← d)

-- the opcodes of a group, which have a kind each
pub apt_group : (cs vs gs ws t : List ℕ) (i to : ℕ) → length cs ≡ length vs → Apt t cs → operations gs ws ≡ span (operations cs vs) i to → length gs ≡ length ws → (j : ℕ) → j < length gs → get_or gs j 0 < 128
apt_group cs vs gs ws t i to e p o f j h =
    let ls = take (to - i) (drop i cs) in
    let m : length ls ≡ length (take (to - i) (drop i vs)) = simp (length-take, length-drop) (omega arith) in
    let same : gs ≡ ls = sym (codes_operations gs ws f) ∙ ap codes (o ∙ sym (lent cs vs i to)) ∙ codes_operations ls (take (to - i) (drop i vs)) m in
    let n : length ls ≡ min (to - i) (length cs - i) = simp (length-take, length-drop) refl in
    let l : j < length ls = rw (← same) h in
    let k : j < to - i = omega arith in
    rw (same, get_or-take (to - i) (drop i cs) j 0 k, get_or-drop i cs j 0) (p.codes (i + j) (omega arith))

-- and their number
pub lent_number : (gs ws : List ℕ) → length gs ≡ length ws → number 128 gs ≡ codes_number (operations gs ws)
unfolding codes_number
lent_number gs ws e = rw (codes_operations gs ws e)
