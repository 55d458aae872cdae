-- A batch that is built has an operation, no empty group but its slots of immediates, and no flag from its count on. Assumes nothing.
use mathlib.Core.Path.{◌≡◌}
use mathlib.Core.List.{List, [], ◌∷◌, map}
use mathlib.Core.Bool.{true}
use Prim.Native.Nat.{ℕ, ◌-◌, ◌≤◌}
use native.Mathlib.Omega.{arith}
use lib.ListN.{length, length-append, length-map}
use lib.Seq.{take_at}
use Rattle.rules.specs.Lists.{in_row, All}
use Rattle.rules.specs.Operations.{Op, good_table}
use Rattle.rules.specs.Batching.{Group, ops, imm, batches_of}
use Rattle.rules.specs.Record.{ops_in, ops_of, block_of, immediates}
use Rattle.rules.specs.Checks.{held}
use Rattle.rules.proofs.Operations.{noop_plain}
use Rattle.claims.specs.Shape.{PowerOfTwo, is1, is2, is4, is8}
use Rattle.claims.specs.Strict.{NoStray, Full}
use Rattle.claims.proofs.Shape.{RightGroup, Follow, RightBatch}
use Rattle.claims.proofs.Right.{Width, right_batches}
use Rattle.claims.proofs.Left.{Short, count_is, held_of, held_is, together_groups, left_batch, shorts}
use Rattle.claims.proofs.Demand3.{each}

module _ (t : List ℕ) where
  no_stray : (gs : List Group) (due : List ℕ) → Follow t due gs → All (RightGroup t) gs → NoStray t (length due) (map ops_in gs)
  unfolding ops_in
  no_stray [] due f h = tt
  no_stray (imm v ∷ gs) [] f h = elim f [ ]
  no_stray (imm v ∷ gs) (u ∷ due) f h = no_stray gs due f.1 h.1
  no_stray (ops [] p ∷ gs) [] f h = absurd (let z = h.0.some in omega arith)
  no_stray (ops (x ∷ xs) p ∷ gs) [] f h = no_stray gs (immediates t (x ∷ xs)) f h.1
  no_stray (ops xs p ∷ gs) (u ∷ due) f h = elim f [ ]

  some : (gs : List Group) → 1 ≤ length gs → Follow t [] gs → All (RightGroup t) gs → 1 ≤ length (ops_of gs)
  unfolding in_row ops_in
  some [] l f h = absurd (omega arith)
  some (imm v ∷ gs) l f h = elim f [ ]
  some (ops xs p ∷ gs) l f h = omega (arith, length-append xs (ops_of gs), h.0.some)

  power_some : (n : ℕ) → PowerOfTwo n → 1 ≤ n
  power_some n is1 = omega arith
  power_some n is2 = omega arith
  power_some n is4 = omega arith
  power_some n is8 = omega arith

  full_batch : (w : ℕ) (gs : List Group) → Short gs → RightBatch w t gs → Full t (held_of gs)
  full_batch w gs s h =
      record {
        some = rw (together_groups gs (8 - length gs)) (some gs (power_some (length gs) h.power) h.follow h.groups);
        no_stray = rw (count_is gs, take_at (map ops_in gs) _ (length gs) (length-map gs ops_in)) (no_stray gs [] h.follow h.groups);
        no_flags = (left_batch t w gs s h).no_flags;
      }

  full_batches : (w : ℕ) (bs : List (List Group)) → All Short bs → All (RightBatch w t) bs → All (Full t) (map held_of bs)
  full_batches w [] s h = tt
  full_batches w (gs ∷ bs) s h = (full_batch w gs s.0 h.0, full_batches w bs s.1 h.1)

  pub built_full : (w : ℕ) → Width w → good_table t ≡ true → (xs : List Op) → All (Full t) (held (block_of (batches_of w t xs)))
  built_full w width h xs =
      let bs = batches_of w t xs in
      let r = right_batches w width t (noop_plain t h) xs in
      let s = shorts t w width.eight bs r in
      rw (held_is bs s) (full_batches w bs s (each t w bs r))
