use mathlib.Core.Path.{sym, ◌∙◌}
use Rattle.strict.specs.Model.{room_work}
use Rattle.strict.proofs.Walk.make_room.Goals as goal

pub returns-then-fits : goal.returns-then-fits
unfolding room_work
returns-then-fits c = rw (sym c.fits.ensures ∙ c.if-fits.true)

pub returns-else-fits : goal.returns-else-fits
unfolding room_work
returns-else-fits c = rw (sym c.fits.ensures ∙ c.if-fits.false) c.end_batch.ensures
