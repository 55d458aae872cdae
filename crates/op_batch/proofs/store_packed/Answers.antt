use Rattle.std.proofs.Common.{arith, length-set, rules}
use Rattle.op_batch.proofs.Stores.{packed_stored}
use Rattle.op_batch.proofs.store_packed.Goals as goal

pub shape_of-records : goal.shape_of-records
shape_of-records c = simp length-set (omega (arith, c.unpack_padding.auto, c.unpack_indptr_deltas.auto))

pub returns : goal.returns
returns c =
    let a = c.args in
    rw (c.put_words.ensures, c.unpack_padding.ensures, c.unpack_indptr_deltas.ensures)
    (packed_stored a.deltas a.flags a.groups.now a.count (search rules) a.records.now a.b)
