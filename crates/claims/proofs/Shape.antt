-- Demand 3 of a list of groups, as batching makes them: steps to what it says of the block that is left. Assumes nothing.
use mathlib.Core.Path.{◌≡◌}
use mathlib.Core.Bool.{Bool, true, false}
use mathlib.Core.List.{List, [], ◌∷◌, ◌++◌}
use Prim.Native.Nat.{ℕ, ◌≤◌}
use lib.ListN.{length}
use Rattle.rules.specs.Lists.{but_last, All}
use Rattle.rules.specs.Operations.{Op}
use Rattle.rules.specs.Batching.{Group, ops, imm, wants_noop}
use Rattle.rules.specs.Record.{immediates}
use Rattle.claims.specs.Shape.{EndsInNoop, PowerOfTwo}

-- "dropping the flagged padding": a group's operations without it, a batch's, and those of all batches
abbrev pub raw_in : Group → List Op
raw_in (ops xs true) = but_last xs
raw_in (ops xs false) = xs
raw_in (imm v) = []

abbrev pub raw : List Group → List Op
raw [] = []
raw (g ∷ gs) = raw_in g ++ raw gs

abbrev pub raws : List (List Group) → List Op
raws [] = []
raws (gs ∷ bs) = raw gs ++ raws bs

-- a flagged group ends in a Noop
abbrev pub Padded : Bool → List Op → Type 0
Padded false xs = Unit {0}
Padded true xs = EndsInNoop xs

-- "no group holds over nine operations or ends in one with an immediate", and none is empty
pub record RightOps (t : List ℕ) (xs : List Op) (p : Bool) : Type 0 where
  pub some : 1 ≤ length xs
  pub nine : length xs ≤ 9
  pub closed : wants_noop t xs ≡ false
  pub padding : Padded p xs

abbrev pub RightGroup : List ℕ → Group → Type 0
RightGroup t (ops xs p) = RightOps t xs p
RightGroup t (imm v) = Unit {0}

-- each group's immediates stand right after it, in order, and no others do; `due` are those that are still to come
abbrev pub Follow : List ℕ → List ℕ → List Group → Type 0
Follow t [] [] = Unit {0}
Follow t (u ∷ due) [] = ⊥
Follow t [] (imm v ∷ gs) = ⊥
Follow t (u ∷ due) (imm v ∷ gs) = (u ≡ v) × Follow t due gs
Follow t [] (ops xs p ∷ gs) = Follow t (immediates t xs) gs
Follow t (u ∷ due) (ops xs p ∷ gs) = ⊥

pub record RightBatch (w : ℕ) (t : List ℕ) (gs : List Group) : Type 0 where
  pub most : length gs ≤ w
  pub power : PowerOfTwo (length gs)
  pub groups : All (RightGroup t) gs
  pub follow : Follow t [] gs

-- "each but the last has 8"
abbrev pub RightBatches : ℕ → List ℕ → List (List Group) → Type 0
RightBatches w t [] = Unit {0}
RightBatches w t (gs ∷ []) = RightBatch w t gs
RightBatches w t (gs ∷ hs ∷ bs) = (length gs ≡ w) × RightBatch w t gs × RightBatches w t (hs ∷ bs)
