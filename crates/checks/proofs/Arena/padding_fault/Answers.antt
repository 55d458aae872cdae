use mathlib.Core.Path.{◌∙◌}
use native.Mathlib.Omega.{arith}
use Rattle.rules.specs.Checks.{padding_faults}
use Rattle.checks.proofs.Batches.{came_first, came_last, came_lies, came_stop, came_room, came_next}
use Rattle.operation.proofs.Faults.{faultless}
use Rattle.refusal.proofs.Told.{handed}
use Rattle.checks.proofs.Arena.padding_fault.Goals as goal

pub loop-b-init : goal.loop-b-init
loop-b-init c = came_first _ _ _ _ c.requires

pub batch_padding-requires : goal.batch_padding-requires
batch_padding-requires c = let l = c.loop-b in came_lies _ _ _ _ _ _ _ l.invariant (omega arith)

pub returns-in_err-batch_padding : goal.returns-in_err-batch_padding
unfolding padding_faults
returns-in_err-batch_padding c =
    let l = c.loop-b in
    handed _ _ c.from_residual.ensures.1 ∙ came_stop _ _ _ _ _ _ _ l.invariant (omega arith) _ _ c.in_err-batch_padding.ensures

pub overflow_add-from : goal.overflow_add-from
overflow_add-from c = let l = c.loop-b in omega (arith, came_room _ _ _ _ _ _ _ l.invariant (omega arith) _ c.len-from.ensures.0)

pub loop-b-preserved : goal.loop-b-preserved
loop-b-preserved c =
    let l = c.loop-b in
    came_next _ _ _ _ _ _ _ l.invariant (omega arith) _ c.len-from.ensures.0 (faultless _ _ c.in_ok-batch_padding.ensures)

pub returns : goal.returns
unfolding padding_faults
returns c = let l = c.loop-b in (came_last _ _ _ _ _ _ _ l.invariant (omega arith)).1
