use native.Mathlib.Omega.{arith}
use Rattle.accumulator.proofs.Good.{target_power}
use Rattle.accumulator.proofs.target_num_groups.Goals as goal

pub returns : goal.returns
returns c =
    let p = c.next_power_of_two.ensures in
    target_power c.args.n _ p.power.0 p.power.1 (omega (arith, c.min.ensures)) (omega (arith, c.min.ensures))
