use mathlib.Core.Path.{◌∙◌}
use native.Mathlib.Omega.{arith}
use Rattle.rules.specs.Checks.{commitment_faults}
use Rattle.operation.proofs.Faults.{faultless}
use Rattle.refusal.proofs.Told.{handed}
use Rattle.checks.proofs.Batches.{came_first, came_last, came_lies, came_stop, came_next}
use Rattle.commitment.proofs.Block.first_fault.Goals as goal

pub loop-b-init : goal.loop-b-init
loop-b-init c = came_first _ _ _ _ (record { width = 8; room = omega arith; passed = c.args.self.structure })

pub invariant_of-batch : goal.invariant_of-batch
invariant_of-batch c =
    let l = c.loop-b in
    let x = came_lies _ _ _ _ _ _ _ l.invariant (omega arith) in
    record { within = omega (arith, l.invariant.all); inside = x.inside }

pub returns-in_err-fault : goal.returns-in_err-fault
unfolding commitment_faults
returns-in_err-fault c =
    let l = c.loop-b in
    handed _ _ c.from_residual.ensures.1 ∙ came_stop _ _ _ _ _ _ _ l.invariant (omega arith) _ _ c.in_err-fault.ensures

pub loop-b-preserved : goal.loop-b-preserved
loop-b-preserved c = let l = c.loop-b in came_next _ _ _ _ _ _ _ l.invariant (omega arith) _ c.len-from.ensures (faultless _ _ c.in_ok-fault.ensures)

pub returns : goal.returns
unfolding commitment_faults
returns c = let l = c.loop-b in (came_last _ _ _ _ _ _ _ l.invariant (omega arith)).1
