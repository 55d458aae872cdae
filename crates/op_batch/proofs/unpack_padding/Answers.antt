use Rattle.std.proofs.Common.{◌≡◌, suc, ◌+◌, arith}
use Rattle.rules.proofs.Digits.{digits_turn, digits_end}
use Rattle.op_batch.proofs.unpack_padding.Goals as goal

pub loop-i-preserved : goal.loop-i-preserved
loop-i-preserved c =
    let l = c.loop-i in
    let e : c.args.at + (l.i + 1) ≡ suc (c.args.at + l.i) = omega arith in
    rw e (rw (digits_turn 2 8 l.i l.left (omega arith)) at l.invariant)

pub returns : goal.returns
returns c =
    let l = c.loop-i in
    rw (digits_end 2 8 l.i l.left (omega arith)) at l.invariant
