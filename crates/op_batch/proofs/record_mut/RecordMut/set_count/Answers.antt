use Rattle.op_batch.specs.Stores.{count_set}
use Rattle.op_batch.proofs.Stored.{one_low}
use Rattle.op_batch.proofs.record_mut.RecordMut.set_count.Goals as goal

pub returns : goal.returns
unfolding count_set
returns c = rw c.store.ensures (one_low _ _ _ _)
