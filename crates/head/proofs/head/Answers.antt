use mathlib.Core.Path.{ap, ◌∙◌}
use Rattle.rules.specs.Functions.{headed}
use Rattle.refusal.proofs.Told.{handed}
use Rattle.wire.proofs.Openings.{opens, shuts}
use Rattle.head.specs.Replies.{head_of}
use Rattle.head.proofs.head.Goals as goal

pub returns-in_err-table : goal.returns-in_err-table
unfolding headed
returns-in_err-table c = handed _ _ c.from_residual.ensures.1 ∙ ap head_of (shuts _ _ _ _ _ _ c.in_err-table.ensures.answer)

pub returns : goal.returns
unfolding headed
returns c = let t = c.in_ok-table.ensures in (rw t.kinds.0 at c.read_head.ensures) ∙ ap head_of (opens _ _ _ _ t.answer)
