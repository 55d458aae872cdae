use Rattle.std.proofs.Common.{arith}
use Rattle.rules.specs.Record.{record_at}
use Rattle.op_batch.proofs.Packing.{sizes_at_lem}
use Rattle.op_batch.proofs.record_at.RecordAt.sizes.Goals as goal

pub overflow_sub-result : goal.overflow_sub-result
unfolding record_at
overflow_sub-result c = omega (arith, c.le-2.ensures.0, c.le.ensures.0, sizes_at_lem 8 _ _ c.requires)

pub returns : goal.returns
unfolding record_at
returns c = omega (arith, c.le-2.ensures.0, c.le.ensures.0, sizes_at_lem 8 _ _ c.requires)
