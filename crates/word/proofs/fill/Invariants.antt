use mathlib.Core.Path.{◌≡◌}
use Prim.Native.Nat.{◌-◌, ◌+◌}
use lib.ListN.{replicate}
use lib.Seq.{sets}
use Rattle.word.proofs.fill.Given as goal

abbrev pub invariant-loop-i : goal.invariant-loop-i
invariant-loop-i g l = sets l.out l.i (replicate (l.at + l.n - l.i) l.v) ≡ sets l.initial.out l.at (replicate l.n l.v)
