use Rattle.encoder.proofs.Items.{block_stored}
use Rattle.encoder.proofs.input.Input.encode_basic_block.Goals as goal

pub returns : goal.returns
returns c =
    let s = c.args.self in
    rw (
      c.write_padding.ensures,
      c.write_deltas-flags.ensures.bytes,
      c.write_deltas-flags.ensures.place,
      c.put.ensures,
      c.batches.ensures,
      c.write_ops-batches.ensures.bytes,
      c.write_count-ops.ensures.1,
    ) (block_stored s.table.now s.arena.codes.now s.arena.values.now s.arena.records.now s.even c.args.out.now c.args.at _ _ c.write_count-ops.ensures.0 c.write_ops-batches.ensures.place)
