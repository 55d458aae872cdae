use Rattle.commitment.proofs.Groups.{lent}
use Rattle.commitment.proofs.Batch.group.Goals as goal

pub returns : goal.returns
returns c = rw (← c.start.ensures.0, ← c.start-2.ensures.0) (lent _ _ _ _)
