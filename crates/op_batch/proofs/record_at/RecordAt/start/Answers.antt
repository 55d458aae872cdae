use Rattle.std.proofs.Common.{◌∙◌, sym, arith}
use Rattle.op_batch.proofs.Right.{start_at}
use Rattle.op_batch.proofs.record_at.RecordAt.start.Goals as goal

pub returns : goal.returns
returns c =
    let a = c.args in
    (c.from.ensures ∙ sym (start_at a.self.records.now a.self.b a.g (omega arith)), omega arith)
