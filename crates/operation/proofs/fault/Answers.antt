use mathlib.Core.Path.{sym, ◌∙◌}
use native.Mathlib.Omega.{arith}
use borrow.Author.Tests.{le-ltb, lt-ltb}
use Rattle.rules.specs.Operations.{assigned, valued, value_right, code_fault, value_fault, op_fault}
use Rattle.rules.proofs.Operations.{kind_at}
use Rattle.operation.proofs.Faults.{assigned_by}
use Rattle.operation.proofs.fault.Goals as goal

pub returns-then-code-ge128 : goal.returns-then-code-ge128
unfolding op_fault code_fault assigned
returns-then-code-ge128 c = simp (le-ltb _ _ c.if-code-ge128.true)

pub returns-then-eq : goal.returns-then-eq
unfolding op_fault code_fault assigned
returns-then-eq c =
    let a = c.args in
    simp (lt-ltb a.code 128 c.if-code-ge128.false, kind_at a.table.now a.code (omega arith), assigned_by _ _ _ c.from.ensures c.if-eq.ensures)

pub returns-then-value_right : goal.returns-then-value_right
unfolding op_fault code_fault value_fault assigned value_right valued
returns-then-value_right c =
    let a = c.args in
    simp (
      lt-ltb a.code 128 c.if-code-ge128.false,
      kind_at a.table.now a.code (omega arith),
      assigned_by _ _ _ c.from.ensures c.if-eq.ensures,
      sym c.value_right.ensures ∙ c.if-value_right.true,
    )

pub returns-else-value_right : goal.returns-else-value_right
unfolding op_fault code_fault value_fault assigned value_right valued
returns-else-value_right c =
    let a = c.args in
    simp (
      lt-ltb a.code 128 c.if-code-ge128.false,
      kind_at a.table.now a.code (omega arith),
      assigned_by _ _ _ c.from.ensures c.if-eq.ensures,
      sym c.value_right.ensures ∙ c.if-value_right.false,
    )
