use Rattle.std.proofs.Common.{◌+◌, ◌*◌, refl, arith}
use Rattle.rules.specs.Record.{record_at, record_size, flags_place}
use Rattle.op_batch.proofs.Bytes.{part_bytes}
use Rattle.op_batch.proofs.Right.{flags_length}
use Rattle.op_batch.proofs.Packing.{bits_number_fits}
use Rattle.op_batch.proofs.record_at.RecordAt.pack_padding.Goals as goal

pub from_digits-requires : goal.from_digits-requires
unfolding record_at
from_digits-requires c =
    let s = c.args.self.records.now in
    let at = record_size * c.args.self.b + flags_place in
    let n = bits_number_fits (record_at s c.args.self.b).flags (flags_length s c.args.self.b) c.requires in
    rw (part_bytes s at (at + 8) 8 refl (omega arith)) (omega arith, omega (arith, n))

pub overflow_cast-result : goal.overflow_cast-result
unfolding record_at
overflow_cast-result c =
    let s = c.args.self.records.now in
    let at = record_size * c.args.self.b + flags_place in
    let n = bits_number_fits (record_at s c.args.self.b).flags (flags_length s c.args.self.b) c.requires in
    omega (arith, n, rw (part_bytes s at (at + 8) 8 refl (omega arith)) at c.from_digits.ensures)

pub returns : goal.returns
unfolding record_at
returns c =
    let s = c.args.self.records.now in
    let at = record_size * c.args.self.b + flags_place in
    rw (part_bytes s at (at + 8) 8 refl (omega arith)) at c.from_digits.ensures
