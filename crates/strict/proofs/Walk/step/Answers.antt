use mathlib.Core.Path.{sym, ◌∙◌}
use native.Mathlib.Omega.{arith}
use Rattle.rules.proofs.Operations.{kind_at}
use Rattle.strict.specs.Model.{stepped_work, fed}
use Rattle.strict.specs.Walk.{batches_in}
use Rattle.strict.proofs.Drafts.{join_is, join_fits}
use Rattle.strict.proofs.Works.{room_fits, room_raw, joins_says, joined_step}
use Rattle.strict.proofs.Walk.step.Goals as goal

pub add-requires : goal.add-requires
add-requires c =
    let b = c.args.self.now in
    rw c.make_room-room.ensures (room_fits 8 (omega arith) b.records.now (batches_in b) c.args.work _, c.requires.0)

pub overflow_add-result-2 : goal.overflow_add-result-2
overflow_add-result-2 c =
    let b = c.args.self.now in
    rw c.make_room-room.ensures (omega (arith, room_raw 8 c.has_immediate-imm.result b.records.now (batches_in b) c.args.work, c.requires.1))

pub returns-then-joins : goal.returns-then-joins
unfolding fed
returns-then-joins c =
    let b = c.args.self.now in
    let k = kind_at b.table.now c.args.code (omega (arith, b.judged.apt.table, c.requires.0)) in
    let j = joins_says _ _ _ (sym c.joins.ensures ∙ c.if-joins.true) in
    rw (← k, ← c.has_immediate-imm.ensures, c.join.ensures, join_is c.args.code _ c.args.work.draft j.0)
    (joined_step b.records.now (batches_in b) c.args.work c.args.code _ (join_fits 8 _ c.args.work.draft.acc j.0 j.1))

pub returns : goal.returns
unfolding fed stepped_work
returns c =
    let b = c.args.self.now in
    rw (c.add.ensures, c.make_room-room.ensures, c.has_immediate-imm.ensures, kind_at b.table.now c.args.code (omega (arith, b.judged.apt.table, c.requires.0)))
