use native.Mathlib.Omega.{arith}
use Rattle.accumulator.specs.Model.{joined_acc}
use Rattle.accumulator.proofs.Good.{joined_fits}
use Rattle.accumulator.proofs.OpBatchAccumulator.push_op.Goals as goal

pub overflow_mul-result : goal.overflow_mul-result
overflow_mul-result c =
    rw c.from.ensures (omega (arith, joined_fits c.args.code c.args.self c.requires.code_bound.0 c.requires.good c.requires.code_bound.1))

pub overflow_add-result-2 : goal.overflow_add-result-2
overflow_add-result-2 c =
    rw c.from.ensures (omega (arith, joined_fits c.args.code c.args.self c.requires.code_bound.0 c.requires.good c.requires.code_bound.1))

pub overflow_mul-result-2 : goal.overflow_mul-result-2
overflow_mul-result-2 c =
    omega (arith, joined_fits c.args.code c.args.self c.requires.code_bound.0 c.requires.good c.requires.code_bound.1)

pub returns : goal.returns
unfolding joined_acc
returns c = rw c.from.ensures
