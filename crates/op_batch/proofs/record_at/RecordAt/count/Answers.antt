use Rattle.std.proofs.Common.{arith}
use Rattle.rules.specs.Record.{record_at}
use Rattle.op_batch.proofs.record_at.RecordAt.count.Goals as goal

pub returns : goal.returns
unfolding record_at
returns c = (c.from.ensures, omega arith)
