-- What the encoder answers and leaves in the lent bytes, said of the definitions' answer.
use Rattle.std.specs.Prelude.{◌≡◌, List, ℕ, length, Result}
use Rattle.rules.specs.Answer.{Answer, good, refused}
use Rattle.rules.specs.Functions.{Arena, encoded, written}
use Rattle.refusal.specs.declared.Refusal.{Refusal}
use Rattle.refusal.specs.Told.{told}

-- how many bytes were written
abbrev pub encoded_of : Answer (List ℕ) → Answer ℕ
encoded_of (good bytes) = good (length bytes)
encoded_of (refused n p) = refused n p

-- what `encode` answers, and what it leaves in the lent bytes
pub record Encodes (t : List ℕ) (a : Arena) (at : ℕ) (before after : List ℕ) (r : Result ℕ Refusal) : Type 0 where
  pub reply : told r ≡ encoded_of (encoded 8 t a (length before) at)
  pub bytes : after ≡ written before at (encoded 8 t a (length before) at)
