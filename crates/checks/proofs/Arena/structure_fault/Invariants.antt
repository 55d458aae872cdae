use Prim.Native.Nat.{◌≤◌}
use Rattle.checks.proofs.Walk.{Summed}
use Rattle.checks.proofs.Arena.structure_fault.Given as goal

abbrev pub invariant-loop-b : goal.invariant-loop-b
invariant-loop-b l = Summed l.width l.self.codes.now l.self.values.now l.self.records.now l.n l.b l.sum × (l.width ≤ 8)
