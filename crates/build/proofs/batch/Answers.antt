use mathlib.Core.Path.{refl}
use Rattle.refusal.proofs.Told.{handed}
use Rattle.build.proofs.Exits.{fault, made, no_room}
use Rattle.build.proofs.batch.Goals as goal

pub returns-in_err-totals : goal.returns-in_err-totals
returns-in_err-totals c = fault _ _ _ _ _ _ _ c.in_err-totals.ensures _ _ refl _ (handed _ _ c.from_residual.ensures.1)

pub returns-then-room_for : goal.returns-then-room_for
returns-then-room_for c = made _ _ _ _ _ _ _ c.in_ok-totals.ensures _ refl _ c.room_for.ensures c.if-room_for.true

pub returns-else-room_for : goal.returns-else-room_for
returns-else-room_for c = no_room _ _ _ _ _ _ _ c.in_ok-totals.ensures _ refl _ c.room_for.ensures c.if-room_for.false _ refl
