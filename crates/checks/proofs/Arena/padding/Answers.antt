use mathlib.Core.Path.{◌∙◌}
use Rattle.refusal.proofs.Told.{handed}
use Rattle.checks.proofs.Passed.{padding_unstructured, padding_by_batches}
use Rattle.checks.proofs.Arena.padding.Goals as goal

pub returns-in_err-structure : goal.returns-in_err-structure
returns-in_err-structure c = handed _ _ c.from_residual.ensures.1 ∙ padding_unstructured _ _ _ _ c.in_err-structure.ensures

pub returns : goal.returns
returns c = c.padding_fault.ensures ∙ padding_by_batches _ _ c.in_ok-structure.ensures
