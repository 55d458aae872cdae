use Prim.Native.Nat.{◌<◌}
use lib.ListN.{drop}
use Rattle.text.specs.Base.{base}
use Rattle.text.proofs.Numerals.{SoFar}
use Rattle.text.proofs.number.Given as goal

abbrev pub invariant-loop-b : goal.invariant-loop-b
invariant-loop-b l = (l.value < 18446744073709551616) × SoFar (base l.radix) l.text (drop l.b-index l.text) l.value
