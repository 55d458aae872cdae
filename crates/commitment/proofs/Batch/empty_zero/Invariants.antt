use mathlib.Core.Path.{◌≡◌}
use Rattle.commitment.specs.View.{record_of, ops_of}
use Rattle.commitment.proofs.Groups.{empty_left}
use Rattle.commitment.proofs.Batch.empty_zero.Given as goal

abbrev pub invariant-loop-g : goal.invariant-loop-g
invariant-loop-g l = empty_left l.self.block.table.now (record_of l.self) (ops_of l.self) l.self.from l.held l.g ≡ empty_left l.self.block.table.now (record_of l.self) (ops_of l.self) l.self.from 0 0
