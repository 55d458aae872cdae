-- What the commitment check is for: batch data belongs to one operation list. Two lists that pass it with the same batch data, under one table, are the
-- same list, but for values that are carried and never placed (kind 2), which no group number holds.
use Rattle.std.specs.Prelude.{◌≡◌, List, [], ◌∷◌, ℕ}
use Rattle.rules.specs.Answer.{good}
use Rattle.rules.specs.Operations.{Op, kind_of}
use Rattle.rules.specs.Functions.{Arena, block_in, commitment_checked}

-- the same opcode, and the same value unless it is of kind 2
pub record SameOp (t : List ℕ) (x y : Op) : Type 0 where
  pub code : x.code ≡ y.code
  pub value : (kind_of t x.code ≡ 2 → ⊥) → x.value ≡ y.value

abbrev pub SameOps : List ℕ → List Op → List Op → Type 0
SameOps t [] [] = Unit {0}
SameOps t [] (y ∷ ys) = ⊥
SameOps t (x ∷ xs) [] = ⊥
SameOps t (x ∷ xs) (y ∷ ys) = SameOp t x y × SameOps t xs ys

abbrev pub OneList : ℕ → Type 0
OneList w = (t : List ℕ) (a b : Arena) → a.records ≡ b.records → commitment_checked w t a ≡ good tt → commitment_checked w t b ≡ good tt → SameOps t (block_in a).ops (block_in b).ops
