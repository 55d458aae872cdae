use native.Mathlib.Omega.{arith}
use Rattle.encoder.proofs.Ways.{not_opened, encoded_15, encoded_4, encoded_left, even, few, known, right, lost}
use Rattle.encoder.proofs.input.Input.checked.Goals as goal

pub returns-in_err-table-clause-err : goal.returns-in_err-table-clause-err
returns-in_err-table-clause-err c = lost _ _ c.from_residual.ensures.1 (not_opened _ _ _ _ c.if-not-within.ensures _ _ c.in_err-table.ensures.answer)

pub structure_fault-requires : goal.structure_fault-requires
structure_fault-requires c = (omega arith, even _ c.if-not-within.ensures)

pub returns-in_err-structure_fault-clause-err : goal.returns-in_err-structure_fault-clause-err
returns-in_err-structure_fault-clause-err c =
    lost _ _ c.from_residual-in_err-structure_fault.ensures.1 (encoded_15 _ _ _ _ c.if-not-within.ensures c.in_ok-table.ensures.answer _ _ c.in_err-structure_fault.ensures)

pub first_fault-requires : goal.first_fault-requires
first_fault-requires c = even _ c.if-not-within.ensures

pub returns-in_err-first_fault-clause-err : goal.returns-in_err-first_fault-clause-err
returns-in_err-first_fault-clause-err c =
    let t = c.in_ok-table.ensures in
    lost _ _ c.from_residual-in_err-first_fault.ensures.1 (encoded_4 _ _ _ _ c.if-not-within.ensures t.answer c.in_ok-structure_fault.ensures _ _ (rw t.kinds.0 at c.in_err-first_fault.ensures))

pub invariant_of-result : goal.invariant_of-result
invariant_of-result c =
    let w = c.if-not-within.ensures in
    let t = c.in_ok-table.ensures.kinds in
    record { even = even _ w; few = few _ w; known = known _ _ w t.1 (rw t.0 at c.in_ok-first_fault.ensures); right = right _ c.in_ok-structure_fault.ensures }

pub returns-clause-ok : goal.returns-clause-ok
returns-clause-ok c =
    let t = c.in_ok-table.ensures in
    (t.bounds.1, rw t.kinds.0 (encoded_left _ _ _ _ c.if-not-within.ensures t.answer c.in_ok-structure_fault.ensures (rw t.kinds.0 at c.in_ok-first_fault.ensures)))
