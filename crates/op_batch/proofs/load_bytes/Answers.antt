use Rattle.std.proofs.Common.{◌+◌, refl, ◌∙◌, arith}
use Rattle.op_batch.proofs.Bytes.{part_bytes}
use Rattle.op_batch.proofs.load_bytes.Goals as goal

pub returns : goal.returns
returns g c = let a = c.args in c.copy_from_slice.ensures.after ∙ part_bytes a.s.now a.at (a.at + g.row.N) g.row.N refl (omega arith)
