use Rattle.strict.specs.Model.{ended_work}
use Rattle.strict.proofs.Walk.end_batch.Goals as goal

pub returns : goal.returns
unfolding ended_work
returns c = rw (c.new.ensures, c.held.ensures)
