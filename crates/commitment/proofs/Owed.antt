-- The walk over a batch's groups that only says whether all is right with them. Assumes nothing.
use mathlib.Core.Path.{◌≡◌, refl, sym, ap, ap₂, ◌∙◌}
use mathlib.Core.Bool.{true}
use mathlib.Core.List.{List, []}
use Prim.Native.Nat.{ℕ, ◌+◌, ◌-◌, ◌≤◌, ◌<◌}
use native.Mathlib.Omega.{arith}
use lib.ListN.{length, get_or, drop}
use Rattle.std.specs.Prelude.{Some}
use Rattle.rules.specs.Answer.{or_else}
use Rattle.rules.specs.Operations.{Op, operations}
use Rattle.rules.specs.Record.{Record, codes_number, immediates}
use Rattle.rules.specs.Checks.{placing_fault, begins}
use Rattle.checks.specs.Batch.{under}
use Rattle.checks.proofs.Groups.{Lying, group, in_order, within_codes}
use Rattle.commitment.specs.declared.Batch.{Batch}
use Rattle.commitment.specs.View.{arena_of, record_of}
use Rattle.commitment.specs.Walk.{slots_after, admissible_from, BatchRight}
use Rattle.commitment.proofs.Groups.{batch_lies, span_length, slot_free, slots_done, groups_left, empty_left, groups_done, empty_done, group_skip, empty_held, empty_right, empty_skip, counted, fault_last, empty_begin}
use Rattle.commitment.proofs.Slots.{all_right}

-- from the g-th group on: slots for the immediates of the groups before, up to `held`, and then the groups
unfoldable owed : List ℕ → Record → List Op → ℕ → ℕ → ℕ → ℕ
owed t r xs from held g = or_else (placing_fault (held - g) (under r xs from g)) (groups_left t r xs from g)

-- what the walk would find from the g-th group on is what it would find from the first on
pub record Gone (t : List ℕ) (r : Record) (cs vs : List ℕ) (from held g : ℕ) : Type 0 where
  groups : owed t r (operations cs vs) from held g ≡ groups_left t r (operations cs vs) from 0
  empty : empty_left t r (operations cs vs) from (held - g) g ≡ empty_left t r (operations cs vs) from 0 0
  scan : admissible_from t cs vs (from + get_or r.starts g 0) ≡ admissible_from t cs vs from

module _ (t : List ℕ) (r : Record) (cs vs : List ℕ) (from : ℕ) (x : Lying r cs vs from) where
  -- nothing is owed
  free : (held g : ℕ) → held ≤ g → owed t r (operations cs vs) from held g ≡ groups_left t r (operations cs vs) from g
  unfolding owed
  free held g h = ap (λ (k : ℕ). or_else k (groups_left t r (operations cs vs) from g)) (slots_done (held - g) (under r (operations cs vs) from g) (omega arith))

  pub gone_first : Gone t r cs vs from 0 0
  gone_first = record { groups = free 0 0 (omega arith); empty = refl; scan = ap (admissible_from t cs vs) (omega (arith, x.laid.sound.first)) }

  module _ (held g : ℕ) (o : Gone t r cs vs from held g) where
    -- a group under the count, of these operations
    module _ (h : g < r.count) (xs : List Op) (d : xs ≡ group r (operations cs vs) from g) where
      abbrev i : ℕ
      i = from + get_or r.starts g 0

      abbrev to : ℕ
      to = from + get_or r.starts (g + 1) 0

      eight : g < 8
      eight = omega (arith, x.laid.count)

      order : i ≤ to
      order = omega (arith, in_order r cs vs from x g eight)

      inside : to ≤ length cs
      inside = within_codes r cs vs from x (g + 1) (omega (arith, eight))

      -- an empty one
      module _ (e : xs ≡ []) where
        skipped : admissible_from t cs vs to ≡ admissible_from t cs vs from
        skipped = ap (admissible_from t cs vs) (omega (arith, order, ap length (sym e ∙ d), span_length cs vs i to x.equal inside)) ∙ o.scan

        pub gone_held : g < held → Gone t r cs vs from held (g + 1)
        unfolding owed
        gone_held p =
            let q : held - (g + 1) ≡ held - g - 1 = omega arith in
            record {
              groups =
                  ap₂ or_else
                  (ap (λ (k : ℕ). placing_fault k (under r (operations cs vs) from (g + 1))) q ∙ slot_free r cs vs from x (held - g) (omega arith) g h (sym d ∙ e))
                  (group_skip t r cs vs from x g h xs d e)
                  ∙ o.groups;
              empty = ap (λ (k : ℕ). empty_left t r (operations cs vs) from k (g + 1)) q ∙ empty_held t r cs vs from x g h xs d e (held - g) (omega arith) ∙ o.empty;
              scan = skipped;
            }

        pub gone_free : held ≤ g → get_or r.numbers g 0 ≡ 0 → Gone t r cs vs from held (g + 1)
        gone_free p n =
            let q : held - (g + 1) ≡ held - g = omega arith in
            record {
              groups = free held (g + 1) (omega arith) ∙ group_skip t r cs vs from x g h xs d e ∙ sym (free held g p) ∙ o.groups;
              empty = ap (λ (k : ℕ). empty_left t r (operations cs vs) from k (g + 1)) q ∙ empty_right t r cs vs from x g h xs d e (held - g) (omega arith) n ∙ o.empty;
              scan = skipped;
            }

      pub gone_full : length t ≡ 128 → (xs ≡ [] → ⊥) → held ≤ g → (next : ℕ) → Some next ≡ slots_after t xs r.numbers (g + 1) → next ≤ 8
          → get_or r.numbers g 0 ≡ codes_number xs → Gone t r cs vs from next (g + 1)
      unfolding owed
      gone_full m f p next s l n =
          let w = all_right t cs vs r.numbers m x.equal x.laid.numbers i to (g + 1) next order inside (omega (arith, eight)) (sym (s ∙ ap (λ (ys : List Op). slots_after t ys r.numbers (g + 1)) d)) in
          let agree = ap (λ (ys : List Op). begins (drop (g + 1) r.numbers) (immediates t ys)) d ∙ w.agree in
          let k : next - (g + 1) ≡ length (immediates t xs) = omega (arith, w.next, ap (λ (ys : List Op). length (immediates t ys)) d) in
          record {
            groups = sym (counted t r cs vs from x g h xs d f n (next - (g + 1)) k ∙ rw agree) ∙ sym (free held g p) ∙ o.groups;
            empty = empty_skip t r cs vs from x g h xs d f (held - g) (next - (g + 1)) k ∙ o.empty;
            scan = w.scan ∙ o.scan;
          }

pub gone_all : (t : List ℕ) (k : Batch) (held g : ℕ) → g ≡ (record_of k).count → held ≤ g → Gone t (record_of k) k.block.arena.codes.now k.block.arena.values.now k.from held g → BatchRight t (arena_of k) k.b k.from
gone_all t k held g e h o =
    let x = batch_lies k in
    let r = record_of k in
    let cs = k.block.arena.codes.now in
    let vs = k.block.arena.values.now in
    let done = sym o.groups ∙ free t r cs vs k.from x held g h ∙ groups_done t r cs vs k.from x g (omega arith) in
    let clear = sym o.empty ∙ empty_done t r cs vs k.from x g (held - g) (omega arith) in
    record {
      fault = fault_last t k done true (sym (sym (empty_begin t r cs vs k.from x) ∙ clear));
      scan = ap (λ (i : ℕ). admissible_from t cs vs (k.from + i)) (sym x.laid.sound.last ∙ ap (λ (i : ℕ). get_or r.starts i 0) (sym e)) ∙ o.scan;
    }
