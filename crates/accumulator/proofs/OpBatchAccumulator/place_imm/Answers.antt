use Rattle.accumulator.specs.Model.{slotted_run}
use Rattle.accumulator.proofs.OpBatchAccumulator.place_imm.Goals as goal

pub returns : goal.returns
unfolding slotted_run
returns c = record { acc = c.slot.ensures; run = c.set_number.ensures }
