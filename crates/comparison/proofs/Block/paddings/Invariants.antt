use mathlib.Core.Path.{◌≡◌}
use Prim.Native.Nat.{◌≤◌}
use lib.ListN.{take, drop}
use Rattle.rules.specs.Digits.{number}
use Rattle.rules.specs.Record.{record_at}
use Rattle.rules.specs.Compare.{flags_set}
use Rattle.comparison.proofs.Block.paddings.Given as goal

abbrev pub invariant-loop-g : goal.invariant-loop-g
invariant-loop-g l = (l.left ≡ number 256 (drop l._g (record_at l.self.records.now l.b).flags)) × (l.n ≡ flags_set (take l._g (record_at l.self.records.now l.b).flags)) × (l.n ≤ l._g)
