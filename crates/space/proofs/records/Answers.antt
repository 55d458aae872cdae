use mathlib.Core.Path.{sym}
use Prim.Native.Nat.{ℕ}
use lib.ListN.{length-replicate}
use Rattle.space.proofs.records.Goals as goal

pub returns : goal.returns
returns c = sym (length-replicate {A = ℕ} 1343652 0)
