use mathlib.Core.Path.{sym, ap, ◌∙◌}
use mathlib.Core.Bool.{true, false}
use native.Mathlib.Omega.{arith}
use Rattle.accumulator.specs.Model.{slotted_acc, joined_acc, ready_acc}
use Rattle.accumulator.proofs.Good.{ready, slotted_ready, here_9, slot_free, added_as, stored_same, run_as}
use Rattle.accumulator.proofs.OpBatchAccumulator.add_op.Goals as goal

pub place_imm-requires : goal.place_imm-requires
place_imm-requires c =
    let r = ready c.args.imm c.args.self c.requires.good c.requires.fits in
    rw c.advance-a.ensures.acc (slot_free c.args.imm (ready_acc c.args.imm c.args.self) r c.if-imm.true)

pub push_op-requires : goal.push_op-requires
push_op-requires c =
    let r = ready c.args.imm c.args.self c.requires.good c.requires.fits in
    let s = slotted_ready c.args.imm (ready_acc c.args.imm c.args.self) c.if-imm.true r in
    rw (c.place_imm.ensures.acc, c.advance-a.ensures.acc) (record { good = s.0; code_bound = (c.requires.code_bound, omega (arith, s.1)) })

pub returns-then-imm : goal.returns-then-imm
returns-then-imm c =
    let a = c.args in
    let e = c.advance-a.ensures in
    let p = c.place_imm.ensures in
    let t = c.if-imm.true in record { acc = c.push_op.ensures ∙ ap (joined_acc a.code a.imm) (p.acc ∙ ap slotted_acc e.acc) ∙ sym (added_as a.imm true a.self t a.code); run = p.run ∙ rw (e.acc, e.run) (stored_same a.out.now (sym (run_as a.imm true a.self t a.v a.out.now.b _))) }

pub push_op-requires-else-imm : goal.push_op-requires-else-imm
push_op-requires-else-imm c =
    let r = ready c.args.imm c.args.self c.requires.good c.requires.fits in
    rw c.advance-a.ensures.acc (record { good = r.good; code_bound = (c.requires.code_bound, here_9 c.args.imm (ready_acc c.args.imm c.args.self).inside r.here) })

pub returns-else-imm : goal.returns-else-imm
returns-else-imm c =
    let a = c.args in
    let e = c.advance-a.ensures in
    let t = c.if-imm.false in record { acc = c.push_op-else-imm.ensures ∙ ap (joined_acc a.code a.imm) e.acc ∙ sym (added_as a.imm false a.self t a.code); run = e.run ∙ stored_same a.out.now (sym (run_as a.imm false a.self t a.v a.out.now.b _)) }
