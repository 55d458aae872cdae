use mathlib.Core.Path.{refl}
use borrow.Author.Tests.{ne_eqb}
use Rattle.rules.specs.Operations.{good_table}
use Rattle.operation.proofs.checked.Goals as goal

pub returns-in_default-clause-err : goal.returns-in_default-clause-err
unfolding good_table
returns-in_default-clause-err c = (refl, simp (ne_eqb _ _ c.in_default.ensures.1))
