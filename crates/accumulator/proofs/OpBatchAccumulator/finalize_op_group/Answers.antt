use mathlib.Core.Path.{ap, ◌∙◌}
use Prim.Native.Nat.{ℕ}
use Rattle.accumulator.specs.Model.{opened_acc, turned_acc}
use Rattle.accumulator.proofs.OpBatchAccumulator.finalize_op_group.Goals as goal

pub returns : goal.returns
unfolding turned_acc
returns c =
    let k = c.close-total.ensures in record { acc = c.opened.ensures ∙ ap (λ (n : ℕ). opened_acc n c.args.self) k.total; run = k.run }
