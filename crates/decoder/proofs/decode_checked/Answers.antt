use mathlib.Core.Path.{sym}
use Rattle.rules.specs.Functions.{decoded}
use Rattle.refusal.proofs.Told.{handed}
use Rattle.wire.proofs.Openings.{opens, shuts}
use Rattle.decoder.proofs.Blocks as B
use Rattle.decoder.proofs.decode_checked.Goals as goal

pub returns-in_err-table : goal.returns-in_err-table
unfolding decoded
returns-in_err-table c = B.reading_lost (sym (shuts _ _ _ _ _ _ c.in_err-table.ensures.answer)) (handed _ _ c.from_residual.ensures.1)

pub returns : goal.returns
unfolding decoded
returns c = let t = c.in_ok-table.ensures in rw (← opens _ _ _ _ t.answer) (rw t.kinds.0 at c.decode_block.ensures)
