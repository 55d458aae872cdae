use Rattle.std.proofs.Common.{◌+◌, ◌*◌, refl, ◌∙◌, arith}
use Rattle.rules.specs.Record.{record_at, record_size, flags_place, numbers_place}
use Rattle.op_batch.proofs.Bytes.{part_bytes}
use Rattle.rules.specs.Checks.{record_right}
use Rattle.op_batch.proofs.record_at.RecordAt.right.Goals as goal

pub returns : goal.returns
unfolding record_right record_at
returns c =
    let a = c.args in
    let s = a.self.records.now in
    let at = record_size * a.self.b in
    c.layout_right.ensures ∙ rw (part_bytes s at (at + flags_place) 9 refl (omega arith), part_bytes s (at + flags_place) (at + numbers_place) 8 (omega arith) (omega arith))
