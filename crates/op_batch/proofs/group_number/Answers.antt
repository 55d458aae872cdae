use Rattle.std.proofs.Common.{arith}
use Rattle.op_batch.proofs.Packing.{codes_number_fits}
use Rattle.op_batch.proofs.group_number.Goals as goal

pub from_digits-requires : goal.from_digits-requires
from_digits-requires c = (omega arith, codes_number_fits c.args.codes.now c.requires.0 c.requires.1)
