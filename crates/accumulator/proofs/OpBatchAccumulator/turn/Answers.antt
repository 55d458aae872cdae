use mathlib.Core.Path.{ap, ◌∙◌}
use Prim.Native.Nat.{ℕ, ◌+◌}
use Rattle.accumulator.specs.Model.{opened_acc, turned_acc}
use Rattle.accumulator.proofs.OpBatchAccumulator.turn.Goals as goal

pub returns : goal.returns
unfolding turned_acc
returns c = c.opened.ensures ∙ ap (λ (n : ℕ). opened_acc (c.args.self.total + n) c.args.self) c.padding.ensures.0
