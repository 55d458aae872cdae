use mathlib.Core.Path.{◌≡◌, sym, ◌∙◌}
use mathlib.Core.Bool.{true, false}
use Rattle.accumulator.specs.Model.{crosses, ready_acc, ready_run}
use Rattle.accumulator.proofs.OpBatchAccumulator.advance.Goals as goal

pub returns-then-full : goal.returns-then-full
unfolding ready_acc ready_run
returns-then-full c =
    let a = c.args in
    let p : crosses a.imm a.self ≡ true = sym c.full.ensures ∙ c.if-full.true in
    rw p c.finalize_op_group.ensures

pub returns-else-full : goal.returns-else-full
unfolding ready_acc ready_run
returns-else-full c =
    let a = c.args in
    let p : crosses a.imm a.self ≡ false = sym c.full.ensures ∙ c.if-full.false in record { acc = rw p; run = rw p }
