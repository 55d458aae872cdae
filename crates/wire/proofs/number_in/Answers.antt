use mathlib.Core.Path.{◌≡◌}
use native.Mathlib.Omega.{arith}
use Rattle.rules.specs.Digits.{le_at}
use Rattle.rules.proofs.Digits.{le_at_split}
use Rattle.wire.proofs.number_in.Goals as goal

pub returns-in-0 : goal.returns-in-0
unfolding le_at
returns-in-0 c =
    let e : c.args.t ≡ 0 = omega arith in
    rw e (omega arith)

pub returns-in-1 : goal.returns-in-1
returns-in-1 c =
    let e : c.args.t ≡ 1 = omega arith in
    rw e (omega arith)

pub returns-in_default : goal.returns-in_default
unfolding le_at
returns-in_default c =
    let a = c.args in
    let e : a.t ≡ 2 = omega arith in
    rw e (omega (arith, le_at_split 2 1 a.s.now a.at))
