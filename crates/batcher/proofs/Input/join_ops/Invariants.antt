use Prim.Native.Nat.{◌+◌, ◌-◌, ◌<◌}
use lib.ListN.{get_or}
use Rattle.rules.specs.Functions.{arena}
use Rattle.batcher.specs.Going.{Going}
use Rattle.batcher.specs.Model.{taken_work}
use Rattle.batcher.proofs.Input.join_ops.Given as goal

abbrev pub invariant-loop-n : goal.invariant-loop-n
invariant-loop-n l =
    (0 < l.n → get_or l.self.codes.now (l.i + l.n - 1) 0 < 128) × Going l.self.width (arena l.initial.codes l.initial.values l.initial.records) l.self.table.now l.self.codes.now l.self.values.now (l.i + l.n) (taken_work l.self.table.now l.self.codes.now l.work l.i l.n l.next l.number l.unit) (arena l.codes l.values l.records)
