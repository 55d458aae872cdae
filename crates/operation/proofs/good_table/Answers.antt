use native.Mathlib.Omega.{arith}
use borrow.Author.Tests.{eq-eqb, ne_eqb}
use Rattle.rules.specs.Operations.{good_table}
use Rattle.rules.proofs.Operations.{kind_at}
use Rattle.operation.proofs.good_table.Goals as goal

pub returns-in_default : goal.returns-in_default
unfolding good_table
returns-in_default c = simp (ne_eqb _ _ c.in_default.ensures.1)

pub returns-then-table-eq0 : goal.returns-then-table-eq0
unfolding good_table
returns-then-table-eq0 c =
    let w = c.in-Ok.ensures.1 in
    simp (eq-eqb _ _ w.long, kind_at c.args.table.now 0 (omega arith), ← w.same, eq-eqb _ _ c.if-table-eq0.true) c.kinds_right.ensures

pub returns-else-table-eq0 : goal.returns-else-table-eq0
unfolding good_table
returns-else-table-eq0 c =
    let w = c.in-Ok.ensures.1 in
    simp (eq-eqb _ _ w.long, kind_at c.args.table.now 0 (omega arith), ← w.same, ne_eqb _ _ c.if-table-eq0.false)
