use Rattle.std.proofs.Common.{◌≡◌, suc, ◌+◌, arith}
use Rattle.rules.specs.Record.{starts_from}
use Rattle.rules.proofs.Digits.{digits_turn, digits_end}
use Rattle.op_batch.proofs.unpack_indptr_deltas.Goals as goal

pub loop-i-preserved : goal.loop-i-preserved
unfolding starts_from
loop-i-preserved c =
    let l = c.loop-i in
    let e : c.args.at + (l.i + 1) ≡ suc (c.args.at + l.i) = omega arith in
    (omega arith, rw e (rw (digits_turn 16 8 l.i l.left (omega arith)) at l.invariant.1))

pub returns : goal.returns
unfolding starts_from
returns c =
    let l = c.loop-i in
    let e : l.i ≡ 8 = omega arith in
    rw (digits_end 16 8 l.i l.left (omega arith), e) at l.invariant.1
