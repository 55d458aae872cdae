use mathlib.Core.Path.{◌≡◌}
use Prim.Native.Nat.{◌+◌, ◌-◌, ◌*◌, ◌≤◌}
use Rattle.rules.specs.Lists.{total}
use Rattle.rules.specs.Digits.{digits}
use Rattle.unpacker.proofs.operations_in.Given as goal

abbrev pub invariant-loop : goal.invariant-loop
invariant-loop l = (l.sum ≤ 15 * l.counter) × (l.sum + total (digits 16 (8 - l.counter) l.left) ≡ total (digits 16 8 l.deltas))
