use mathlib.Core.Path.{◌≡◌}
use mathlib.Core.List.{◌++◌}
use Prim.Native.Nat.{◌-◌}
use lib.ListN.{take, replicate}
use Rattle.word.proofs.zero_after.Given as goal

abbrev pub invariant-loop-i : goal.invariant-loop-i
invariant-loop-i g l = take l.i l.out ≡ take l.k l.initial.out ++ replicate (l.i - l.k) g.T.Number.ZERO
