use mathlib.Core.Path.{refl, sym}
use Rattle.refusal.proofs.Told.{handed_by}
use Rattle.wire.proofs.Stages.{went_by, stuck_by, staged_lost, staged_found}
use Rattle.decoder.proofs.Ops.{items_lost, items_uncounted, items_13, items_good}
use Rattle.decoder.proofs.read_items.Goals as goal

pub returns-in_err-next : goal.returns-in_err-next
returns-in_err-next c = staged_lost (items_lost _ _ _ _ _ _ _ (stuck_by c.in_err-next.ensures refl)) (handed_by _ _ _ c.from_residual.ensures.1)

pub returns-in_err-batches : goal.returns-in_err-batches
returns-in_err-batches c =
    let o = went_by c.in_ok-next.ensures refl in
    staged_lost (items_uncounted _ _ _ _ _ _ _ o.is _ _ (sym c.in_err-batches.ensures)) (handed_by _ _ _ c.from_residual-in_err-batches.ensures.1)

pub returns-then-room-batches : goal.returns-then-room-batches
returns-then-room-batches c =
    let o = went_by c.in_ok-next.ensures refl in
    staged_lost (items_13 _ _ _ _ _ _ _ o.is _ _ (sym c.in_ok-batches.ensures) c.if-room-batches.true) refl

pub returns : goal.returns
returns c =
    let o = went_by c.in_ok-next.ensures refl in
    staged_found (items_good _ _ _ _ _ _ _ o.is _ _ (sym c.in_ok-batches.ensures) c.if-room-batches.false) refl o.holds
