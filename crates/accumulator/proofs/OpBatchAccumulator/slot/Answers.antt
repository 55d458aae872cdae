use mathlib.Core.Path.{refl}
use Rattle.accumulator.specs.Model.{slotted_acc}
use Rattle.accumulator.proofs.OpBatchAccumulator.slot.Goals as goal

pub returns : goal.returns
unfolding slotted_acc
returns c = refl
