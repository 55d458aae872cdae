-- A contract that says what the reply equals admits one reply. Assumes nothing.
use mathlib.Core.Path.{◌≡◌, sym, ◌∙◌}
use Rattle.claims.specs.One.{Only}

pub equal : {A : Type 0} (answer : A) → Only (λ r. r ≡ answer)
equal answer r q h k = h ∙ sym k
