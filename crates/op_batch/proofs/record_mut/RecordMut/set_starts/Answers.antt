use Rattle.op_batch.specs.Stores.{starts_set}
use Rattle.op_batch.proofs.Stored.{one_low}
use Rattle.op_batch.proofs.record_mut.RecordMut.set_starts.Goals as goal

pub returns : goal.returns
unfolding starts_set
returns c = rw c.fill_few.ensures (one_low _ _ _ _)
