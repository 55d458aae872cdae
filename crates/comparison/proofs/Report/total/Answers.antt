use native.Mathlib.Omega.{arith}
use borrow.Author.Tests.{eq-eqb, ne_eqb}
use Rattle.rules.specs.Compare.{unless, total_apart}
use Rattle.comparison.proofs.Entries.{difference_is, adds_none}
use Rattle.comparison.proofs.Report.total.Goals as goal

pub returns-then-first-second : goal.returns-then-first-second
unfolding total_apart unless
returns-then-first-second c =
    let a = c.args in
    rw (ne_eqb _ _ c.if-first-second.true)
    (rw (difference_is a.first a.second c.requires.1 c.requires.2) at c.put.ensures, omega (arith, c.put.ensures.count))

pub returns-else-first-second : goal.returns-else-first-second
unfolding total_apart unless
returns-else-first-second c = rw (eq-eqb _ _ c.if-first-second.false) (adds_none _, omega arith)
