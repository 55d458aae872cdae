use Rattle.exports.proofs.Rooms.{strictly_bounded, reads_out}
use borrow.Author.Rules.{rules}
use Rattle.exports.proofs.oli_decode_strict_le.Goals as goal

pub returns : goal.returns
returns c =
    let a = c.args in
    let h = c.read_le.ensures in
    reads_out (strictly_bounded a.table.now a.bytes.now a.at) (search rules) h.room h.after_is
