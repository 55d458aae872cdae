use Rattle.std.proofs.Common.{◌≡◌, ap, ◌∙◌, arith}
use Rattle.rules.specs.Digits.{number}
use Rattle.rules.specs.Record.{differences, record_at}
use Rattle.op_batch.proofs.Right.{starts_length}
use Rattle.op_batch.proofs.Packing.{bytes_of_sizes, sizes_number_fits}
use Rattle.op_batch.proofs.record_at.RecordAt.pack_indptr_deltas.Goals as goal

pub from_digits-requires : goal.from_digits-requires
from_digits-requires c =
    let r = record_at c.args.self.records.now c.args.self.b in
    let l = starts_length c.args.self.records.now c.args.self.b in
    let e : c.to_le_bytes.result ≡ differences r.starts = c.to_le_bytes.ensures ∙ rw c.sizes.ensures (bytes_of_sizes r.starts l c.requires) in
    rw e (omega arith, sizes_number_fits r.starts l c.requires)

pub returns : goal.returns
returns c =
    let r = record_at c.args.self.records.now c.args.self.b in
    let l = starts_length c.args.self.records.now c.args.self.b in
    let e : c.to_le_bytes.result ≡ differences r.starts = c.to_le_bytes.ensures ∙ rw c.sizes.ensures (bytes_of_sizes r.starts l c.requires) in
    c.from_digits.ensures ∙ ap (number 16) e
