use mathlib.Core.Path.{◌≡◌}
use Rattle.operation.proofs.Scan.{left}
use Rattle.operation.proofs.first_fault.Given as goal

abbrev pub invariant-loop-i : goal.invariant-loop-i
invariant-loop-i l = left l.table l.codes l.values l.i ≡ left l.table l.codes l.values 0
