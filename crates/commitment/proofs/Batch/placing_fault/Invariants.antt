use mathlib.Core.Path.{◌≡◌}
use Prim.Native.Nat.{◌+◌, ◌-◌, ◌≤◌}
use Rattle.rules.specs.Checks.{placing_fault}
use Rattle.checks.specs.Batch.{under}
use Rattle.commitment.specs.View.{record_of, ops_of}
use Rattle.commitment.proofs.Batch.placing_fault.Given as goal

abbrev pub invariant-loop-j : goal.invariant-loop-j
invariant-loop-j l =
    record {
      low : l.j ≤ 8;
      same : placing_fault (l.g + l.n - l.j) (under (record_of l.self) (ops_of l.self) l.self.from l.j) ≡ placing_fault l.n (under (record_of l.self) (ops_of l.self) l.self.from l.g);
    }
