use mathlib.Core.Path.{ap, ◌∙◌}
use Prim.Native.Nat.{ℕ, ◌+◌}
use Rattle.accumulator.specs.Model.{closed_run}
use Rattle.accumulator.proofs.OpBatchAccumulator.close.Goals as goal

pub returns : goal.returns
unfolding closed_run
returns c =
    let e = c.padding-pad.ensures.0 in record { total = ap (λ (k : ℕ). c.args.self.total + k) e; run = c.set_number.ensures ∙ rw (c.set_flag.ensures, c.set_starts.ensures, e) }
