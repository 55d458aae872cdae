use mathlib.Core.Path.{◌≡◌, sym, ◌∙◌}
use mathlib.Core.Bool.{true, false}
use Rattle.accumulator.specs.Model.{fits_in}
use Rattle.batcher.specs.Model.{room_work, room_run}
use Rattle.batcher.proofs.Work.make_room.Goals as goal

pub returns-then-can_accept_op : goal.returns-then-can_accept_op
unfolding room_work room_run
returns-then-can_accept_op c =
    let a = c.args in
    let p : fits_in a.width a.imm a.self.acc ≡ true = sym c.can_accept_op.ensures ∙ c.if-can_accept_op.true in record { work = rw p; run = rw p }

pub returns-else-can_accept_op : goal.returns-else-can_accept_op
unfolding room_work room_run
returns-else-can_accept_op c =
    let a = c.args in
    let p : fits_in a.width a.imm a.self.acc ≡ false = sym c.can_accept_op.ensures ∙ c.if-can_accept_op.false in
    rw p c.end_batch.ensures
