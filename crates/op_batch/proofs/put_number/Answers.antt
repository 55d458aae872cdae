use Rattle.op_batch.specs.Stores.{number_set}
use Rattle.op_batch.proofs.put_number.Goals as goal

pub returns : goal.returns
unfolding number_set
returns c = c.put.ensures
