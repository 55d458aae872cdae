use Rattle.std.proofs.Common.{◌∙◌, length-set, arith}
use Rattle.word.proofs.Bases.{digit_more, all_digits}
use Rattle.word.proofs.digits.Goals as goal

pub loop-digit-preserved : goal.loop-digit-preserved
loop-digit-preserved g c =
    let l = c.loop-digit in
    (length-set l.digit-items _ _ ∙ l.invariant.0, digit_more l.digit-items _ g.row.B g.row.N l.digit-index l.left (omega arith) (omega (arith, l.invariant.0)) l.invariant.1)

pub returns : goal.returns
returns g c =
    let l = c.loop-digit in
    all_digits l.digit-items _ g.row.B g.row.N l.digit-index l.left (omega arith) (omega arith) l.invariant.0 l.invariant.1
