use mathlib.Core.Path.{sym, ◌∙◌}
use native.Mathlib.Omega.{arith}
use Rattle.rules.specs.Functions.{commitment_checked}
use Rattle.rules.proofs.Operations.{table_128}
use Rattle.refusal.proofs.Told.{handed}
use Rattle.checks.proofs.Walk.{equal_lengths}
use Rattle.checks.proofs.Passed.{apt}
use Rattle.commitment.proofs.Stages.{no_structure, structure_passed, all_well, not_admissible, by_batches}
use Rattle.commitment.proofs.commitment.Goals as goal

pub returns-then-not-within : goal.returns-then-not-within
unfolding commitment_checked
returns-then-not-within c = rw (sym c.if-not-within.ensures)

pub returns-in_err-table : goal.returns-in_err-table
unfolding commitment_checked
returns-in_err-table c = handed _ _ c.from_residual.ensures.1 ∙ rw (sym c.if-not-within.ensures, c.in_err-table.ensures.err.1, c.in_err-table.ensures.err.0)

pub structure_fault-requires : goal.structure_fault-requires
structure_fault-requires c = (omega arith, equal_lengths _ _ _ (sym c.if-not-within.ensures))

pub returns-in_err-structure_fault : goal.returns-in_err-structure_fault
returns-in_err-structure_fault c =
    handed _ _ c.from_residual-in_err-structure_fault.ensures.1 ∙ no_structure _ _ _ (sym c.if-not-within.ensures) c.in_ok-table.ensures.ok.1 _ _ c.in_err-structure_fault.ensures

pub invariant_of-block : goal.invariant_of-block
invariant_of-block c =
    let t = c.in_ok-table.ensures.ok in
    record { known = rw t.0 (table_128 _ t.1); structure = structure_passed _ _ _ (sym c.if-not-within.ensures) t.1 c.in_ok-structure_fault.ensures }

pub returns-then-is_right : goal.returns-then-is_right
returns-then-is_right c =
    let t = c.in_ok-table.ensures.ok in
    all_well _ _ _ (sym c.if-not-within.ensures) t.1 c.in_ok-structure_fault.ensures (rw t.0 at (c.is_right.ensures c.if-is_right.true))

pub first_fault-requires : goal.first_fault-requires
first_fault-requires c = equal_lengths _ _ _ (sym c.if-not-within.ensures)

pub returns-in_err-first_fault : goal.returns-in_err-first_fault
returns-in_err-first_fault c =
    let t = c.in_ok-table.ensures.ok in
    handed _ _ c.from_residual-in_err-first_fault.ensures.1
    ∙ not_admissible _ _ _ (sym c.if-not-within.ensures) t.1 c.in_ok-structure_fault.ensures _ _ (rw t.0 at c.in_err-first_fault.ensures)

pub first_fault-requires-2 : goal.first_fault-requires-2
first_fault-requires-2 c =
    let t = c.in_ok-table.ensures.ok in
    apt _ _ _ (rw t.0 t.1) (equal_lengths _ _ _ (sym c.if-not-within.ensures)) (sym c.in_ok-first_fault.ensures)

pub returns : goal.returns
returns c =
    let t = c.in_ok-table.ensures.ok in
    rw t.0 at c.first_fault-2.ensures ∙ by_batches _ _ _ (sym c.if-not-within.ensures) t.1 c.in_ok-structure_fault.ensures (rw t.0 at c.in_ok-first_fault.ensures)
