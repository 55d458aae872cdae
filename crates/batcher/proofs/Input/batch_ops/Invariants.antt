use Prim.Native.Nat.{◌-◌, ◌≤◌}
use lib.ListN.{length}
use Rattle.rules.specs.Functions.{arena}
use Rattle.batcher.specs.Going.{Going}
use Rattle.batcher.proofs.Input.batch_ops.Given as goal

abbrev pub invariant-loop-i : goal.invariant-loop-i
invariant-loop-i l =
    (l.i ≤ length l.self.codes.now) × Going l.self.width (arena l.initial.codes l.initial.values l.initial.records) l.self.table.now l.self.codes.now l.self.values.now l.i l.work (arena l.codes l.values l.records)

abbrev pub decreases-loop-i : goal.decreases-loop-i
decreases-loop-i l = length l.self.codes.now - l.i
