use mathlib.Core.Path.{◌≡◌}
use Prim.Native.Nat.{◌-◌}
use Rattle.rules.specs.Digits.{digits}
use Rattle.rules.specs.Bytes.{up_to}
use Rattle.wire.proofs.deltas_right.Given as goal

abbrev pub invariant-loop-i : goal.invariant-loop-i
invariant-loop-i l = up_to 9 (digits 16 (8 - l._i) l.left) ≡ up_to 9 (digits 16 8 l.v)
