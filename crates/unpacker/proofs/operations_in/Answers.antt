use native.Mathlib.Omega.{arith}
use Rattle.unpacker.proofs.Groups.{total_turn, total_end}
use Rattle.unpacker.proofs.operations_in.Goals as goal

pub loop-preserved : goal.loop-preserved
loop-preserved c = (omega arith, omega (arith, total_turn 8 c.loop.counter c.loop.left (omega arith)))

pub returns : goal.returns
returns c = omega (arith, total_end 8 c.loop.counter c.loop.left (omega arith))
