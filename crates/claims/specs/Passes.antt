-- What passes all three checks: what `build` makes, and what `decode` takes.
use Rattle.std.specs.Prelude.{◌≡◌, List, ℕ}
use Rattle.rules.specs.Answer.{good}
use Rattle.rules.specs.Record.{Block}
use Rattle.rules.specs.Functions.{structure_checked, padding_checked, commitment_checked}
use Rattle.claims.specs.Demand3.{lent}

pub record Passes (w : ℕ) (t : List ℕ) (b : Block) : Type 0 where
  pub structure : structure_checked w (lent b) ≡ good tt
  pub padding : padding_checked w (lent b) ≡ good tt
  pub commitment : commitment_checked w t (lent b) ≡ good tt
