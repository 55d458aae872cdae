use mathlib.Core.Path.{◌≡◌}
use Prim.Native.Nat.{◌-◌, ◌≤◌}
use Rattle.strict.specs.Draft.{closed_times}
use Rattle.strict.proofs.Draft.end.Given as goal

abbrev pub invariant-loop : goal.invariant-loop
invariant-loop l = (l.d.acc.next ≡ l.counter) × (l.end ≤ 8) × (closed_times (l.end - l.d.acc.next) l.d ≡ closed_times (l.end - l.initial.d.acc.next) l.initial.d)
