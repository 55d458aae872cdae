use Rattle.op_batch.proofs.Right.{flags_at_lem}
use Rattle.std.proofs.Common.{sym, ◌∙◌}
use Rattle.op_batch.proofs.record_at.RecordAt.flags.Goals as goal

pub returns : goal.returns
returns c = let a = c.args in c.le.ensures.0 ∙ sym (flags_at_lem a.self.records.now a.self.b)
