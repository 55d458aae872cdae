use mathlib.Core.Path.{refl, sym, ◌∙◌}
use native.Mathlib.Omega.{arith}
use Rattle.operation.proofs.Scan.{turn, stop, done}
use Rattle.operation.proofs.Faults.{faultless, faulted}
use Rattle.refusal.proofs.Told.{handed}
use Rattle.operation.proofs.first_fault.Goals as goal

pub returns-in_err-fault : goal.returns-in_err-fault
returns-in_err-fault c =
    let l = c.loop-i in
    let a = c.args in
    let f = faulted _ _ _ _ c.in_err-fault.ensures in
    handed _ _ c.from_residual.ensures.1 ∙ rw (← f.number, ← f.place) (sym (stop a.table.now a.codes.now a.values.now l.i (omega arith) (omega arith) _ refl f.some) ∙ l.invariant)

pub loop-i-preserved : goal.loop-i-preserved
loop-i-preserved c =
    let l = c.loop-i in
    let a = c.args in
    turn a.table.now a.codes.now a.values.now l.i (omega arith) (omega arith) (faultless _ _ c.in_ok-fault.ensures) ∙ l.invariant

pub returns : goal.returns
returns c =
    let l = c.loop-i in
    let a = c.args in
    sym (done a.table.now a.codes.now a.values.now l.i (omega arith)) ∙ l.invariant
