use native.Mathlib.Omega.{arith}
use Rattle.word.proofs.Zeros.{zero_turn}
use Rattle.word.proofs.zero_after.Goals as goal

pub loop-i-preserved : goal.loop-i-preserved
loop-i-preserved g c =
    let l = c.loop-i in
    zero_turn c.args.out.now l.out c.args.k l.i _ _ c.ZERO.ensures (omega arith) (omega arith) l.invariant
