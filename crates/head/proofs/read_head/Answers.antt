use mathlib.Core.Path.{refl, sym, ap, ◌∙◌}
use Rattle.refusal.proofs.Told.{handed}
use Rattle.wire.proofs.Stages.{went_by, stuck_by}
use Rattle.head.specs.Replies.{head_of}
use Rattle.head.proofs.Heads.{passed, head_uncounted, head_lost, head_unbatched, head_good}
use Rattle.head.proofs.read_head.Goals as goal

pub returns-in_err-count : goal.returns-in_err-count
returns-in_err-count c =
    let a = c.args in
    handed _ _ c.from_residual.ensures.1 ∙ sym (ap head_of (head_uncounted a.table.now a.s.now a.at _ _ (sym c.in_err-count.ensures)))

pub returns-in_err-next : goal.returns-in_err-next
returns-in_err-next c =
    let a = c.args in
    let f = stuck_by (passed a.table.now a.s.now _ _ _ c.in_err-next.ensures) refl in
    handed _ _ c.from_residual-in_err-next.ensures.1 ∙ sym (ap head_of (head_lost a.table.now a.s.now a.at _ _ (sym c.in_ok-count.ensures) _ _ f))

pub returns-in_err-batches : goal.returns-in_err-batches
returns-in_err-batches c =
    let a = c.args in
    let f = went_by (passed a.table.now a.s.now _ _ _ c.in_ok-next.ensures) refl in
    handed _ _ c.from_residual-in_err-batches.ensures.1 ∙ sym (ap head_of (head_unbatched a.table.now a.s.now a.at _ _ (sym c.in_ok-count.ensures) _ _ f.is _ _ (sym c.in_err-batches.ensures)))

pub returns : goal.returns
returns c =
    let a = c.args in
    let f = went_by (passed a.table.now a.s.now _ _ _ c.in_ok-next.ensures) refl in
    rw (← f.holds) (sym (ap head_of (head_good a.table.now a.s.now a.at _ _ (sym c.in_ok-count.ensures) _ _ f.is _ _ (sym c.in_ok-batches.ensures))))
