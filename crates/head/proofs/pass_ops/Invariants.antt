use mathlib.Core.Path.{◌≡◌}
use Prim.Native.Nat.{◌-◌}
use Rattle.rules.specs.Bytes.{ops_at}
use Rattle.wire.specs.Stages.{after}
use Rattle.head.proofs.pass_ops.Given as goal

abbrev pub invariant-loop-i : goal.invariant-loop-i
invariant-loop-i l = after (ops_at l.table l.s (l.n - l.i) l.next l.i) ≡ after (ops_at l.table l.s l.n l.at 0)
