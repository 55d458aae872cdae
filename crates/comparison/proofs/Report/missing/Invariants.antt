use Prim.Native.Nat.{◌+◌, ◌-◌}
use mathlib.Core.Path.{◌≡◌}
use Rattle.comparison.specs.Entries.{side_number}
use Rattle.comparison.specs.Model.{missing_from}
use Rattle.comparison.proofs.Entries.{Ahead}
use Rattle.comparison.proofs.Report.missing.Given as goal

abbrev pub invariant-loop-b : goal.invariant-loop-b
invariant-loop-b l =
    (l.self.entries + l.from ≡ l.initial.self.entries + l.b)
    × Ahead (missing_from (l.to - l.b) l.b (side_number l.side)) l.self (missing_from (l.to - l.from) l.from (side_number l.side)) l.initial.self
