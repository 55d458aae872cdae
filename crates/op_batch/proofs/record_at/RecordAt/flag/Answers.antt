use Rattle.std.proofs.Common.{sym, arith}
use Rattle.op_batch.proofs.Right.{flag_at}
use Rattle.op_batch.proofs.record_at.RecordAt.flag.Goals as goal

pub returns : goal.returns
returns c = let a = c.args in sym (flag_at a.self.records.now a.self.b a.g (omega arith))
