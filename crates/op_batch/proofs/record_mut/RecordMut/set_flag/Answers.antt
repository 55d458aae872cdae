use Rattle.op_batch.specs.Stores.{flag_set}
use Rattle.op_batch.proofs.Stored.{one_low}
use Rattle.op_batch.proofs.record_mut.RecordMut.set_flag.Goals as goal

pub returns : goal.returns
unfolding flag_set
returns c = rw c.store.ensures (one_low _ _ _ _)
