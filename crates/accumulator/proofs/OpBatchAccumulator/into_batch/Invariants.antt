use mathlib.Core.Path.{◌≡◌}
use Prim.Native.Nat.{◌-◌, ◌≤◌}
use Rattle.op_batch.specs.RecordMut.{stored}
use Rattle.accumulator.specs.Good.{record_groups, Good}
use Rattle.accumulator.specs.Model.{filled_acc, filled_run}
use Rattle.accumulator.proofs.OpBatchAccumulator.into_batch.Given as goal

abbrev pub invariant-loop : goal.invariant-loop
invariant-loop l =
    Good record_groups l.a
    × (l.a.next ≡ l.counter)
    × (l.count ≤ record_groups)
    × (filled_acc (l.count - l.a.next) l.a ≡ filled_acc (l.count - l.initial.a.next) l.initial.a)
    × (stored (filled_run (l.count - l.a.next) l.out.b l.a) l.out ≡ stored (filled_run (l.count - l.initial.a.next) l.initial.out.b l.initial.a) l.initial.out)
