use mathlib.Core.Path.{◌∙◌}
use Rattle.rules.specs.Functions.{op_here}
use Rattle.refusal.proofs.Told.{handed_by}
use Rattle.wire.proofs.Openings.{opens, shuts}
use Rattle.reader.proofs.Reader.op.Goals as goal

pub returns-in_err-table : goal.returns-in_err-table
unfolding op_here
returns-in_err-table c = handed_by _ _ _ c.from_residual.ensures.1 ∙ shuts _ _ _ _ _ _ c.in_err-table.ensures.answer

pub returns : goal.returns
unfolding op_here
returns c = let t = c.in_ok-table.ensures in (rw t.kinds.0 at c.read_op.ensures) ∙ opens _ _ _ _ t.answer
