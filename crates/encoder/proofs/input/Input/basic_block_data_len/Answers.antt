use mathlib.Core.Path.{sym}
use native.Mathlib.Omega.{arith}
use lib.ListN.{length}
use Rattle.encoder.proofs.Items.{more_most, ops_most, block_length}
use Rattle.encoder.proofs.input.Input.basic_block_data_len.Goals as goal

pub overflow_add-result-2 : goal.overflow_add-result-2
overflow_add-result-2 c = omega (arith, c.args.self.few, more_most (length c.args.self.arena.codes.now))

pub overflow_add-result-3 : goal.overflow_add-result-3
overflow_add-result-3 c = omega (arith, c.args.self.few, more_most (length c.args.self.arena.codes.now), ops_most c.args.self.table.now c.args.self.arena.codes.now)

pub returns : goal.returns
returns c =
    let s = c.args.self in
    rw (c.batches.ensures, c.count_size.ensures, c.ops_len.ensures) (sym (block_length s.table.now s.arena.codes.now s.arena.values.now s.arena.records.now s.even))
