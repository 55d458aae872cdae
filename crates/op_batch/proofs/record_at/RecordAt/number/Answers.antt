use Rattle.std.proofs.Common.{sym, ◌∙◌, arith}
use Rattle.op_batch.proofs.Right.{number_at}
use Rattle.op_batch.proofs.record_at.RecordAt.number.Goals as goal

pub returns : goal.returns
returns c = let a = c.args in c.le.ensures.0 ∙ sym (number_at a.self.records.now a.self.b a.g (omega arith))
