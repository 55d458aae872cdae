-- Words of demand 3 that several statements share.
use Rattle.std.specs.Prelude.{◌≡◌, List, [], ◌∷◌, ℕ}
use Rattle.rules.specs.Operations.{Op, noop}

abbrev pub EndsInNoop : List Op → Type 0
EndsInNoop [] = ⊥
EndsInNoop (x ∷ []) = x ≡ noop
EndsInNoop (x ∷ y ∷ xs) = EndsInNoop (y ∷ xs)

-- "1, 2, 4 or 8"
pub data PowerOfTwo : ℕ → Type 0 where
  is1 : PowerOfTwo 1
  is2 : PowerOfTwo 2
  is4 : PowerOfTwo 4
  is8 : PowerOfTwo 8
