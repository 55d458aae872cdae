use Prim.Native.Nat.{◌≤◌}
use Rattle.commitment.specs.View.{record_of}
use Rattle.commitment.proofs.Owed.{Gone}
use Rattle.commitment.proofs.Batch.is_right.Given as goal

abbrev pub invariant-loop-g : goal.invariant-loop-g
invariant-loop-g l = record { held : l.held ≤ l.count; gone : Gone l.self.block.table.now (record_of l.self) l.self.block.arena.codes.now l.self.block.arena.values.now l.self.from l.held l.g }
