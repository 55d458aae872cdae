use Rattle.op_batch.specs.Stores.{number_set}
use Rattle.op_batch.proofs.Stored.{one_low}
use Rattle.op_batch.proofs.record_mut.RecordMut.set_number.Goals as goal

pub returns : goal.returns
unfolding number_set
returns c = rw c.store_le8.ensures (one_low _ _ _ _)
