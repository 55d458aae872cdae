use mathlib.Core.Path.{◌≡◌}
use mathlib.Core.Bool.{◌&&◌}
use Rattle.operation.proofs.Scan.{kinds_from}
use Rattle.operation.proofs.kinds_right.Given as goal

abbrev pub invariant-loop-kind : goal.invariant-loop-kind
invariant-loop-kind l = (l.ok && kinds_from l.table l.kind-index) ≡ kinds_from l.table 0
