use native.Mathlib.Omega.{arith}
use Rattle.comparison.proofs.Entries.{adds_none}
use Rattle.comparison.proofs.Report.note.Goals as goal

pub returns-in_default : goal.returns-in_default
returns-in_default c = rw c.in_default.is (adds_none _, omega arith)
