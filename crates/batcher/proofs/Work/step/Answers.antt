use mathlib.Core.Path.{◌∙◌}
use native.Mathlib.Omega.{arith}
use Rattle.std.proofs.Common.{rules}
use Rattle.op_batch.proofs.Stored.{given_back}
use Rattle.accumulator.specs.Good.{record_groups}
use Rattle.batcher.specs.Model.{room_work, stepped_work, stepped_run}
use Rattle.accumulator.proofs.Good.{good_wider, fits_wider}
use Rattle.batcher.proofs.Keeps.{roomy, stepped_total}
use Rattle.batcher.proofs.Work.step.Goals as goal

pub make_room-r-requires : goal.make_room-r-requires
make_room-r-requires c = record { good = good_wider c.args.self.acc c.requires.width_in_bounds.1 c.requires.width_in_bounds.2; base_bound = (omega (arith, c.requires.base_bound), omega (arith, c.requires.base_bound)) }

pub add_op-acc-requires : goal.add_op-acc-requires
add_op-acc-requires c =
    let r = roomy c.args.width c.args.imm c.args.self c.requires.width_in_bounds.0 c.requires.width_in_bounds.1 c.requires.width_in_bounds.2 in
    let q = room_work c.args.width c.args.imm c.args.self in
    rw c.make_room-r.ensures.work (record { good = good_wider q.acc c.requires.width_in_bounds.1 r.good; fits = fits_wider c.args.width record_groups c.args.imm q.acc c.requires.width_in_bounds.1 r.fits; code_bound = c.requires.base_bound.2 })

pub overflow_add-at : goal.overflow_add-at
overflow_add-at c =
    let r = roomy c.args.width c.args.imm c.args.self c.requires.width_in_bounds.0 c.requires.width_in_bounds.1 c.requires.width_in_bounds.2 in
    let t = stepped_total c.args.width c.args.code c.args.imm c.args.self c.requires.width_in_bounds.0 c.requires.width_in_bounds.1 c.requires.base_bound.2 c.requires.width_in_bounds.2 in
    rw (c.add_op-acc.ensures.acc, c.make_room-r.ensures.work) (omega (arith, c.requires.base_bound))

pub overflow_sub-at : goal.overflow_sub-at
overflow_sub-at c =
    let t = stepped_total c.args.width c.args.code c.args.imm c.args.self c.requires.width_in_bounds.0 c.requires.width_in_bounds.1 c.requires.base_bound.2 c.requires.width_in_bounds.2 in
    rw (c.add_op-acc.ensures.acc, c.make_room-r.ensures.work) (omega arith)

pub returns : goal.returns
unfolding stepped_work stepped_run
returns c =
    let m = c.make_room-r.ensures in
    let e = c.add_op-acc.ensures in record { work = rw (e.acc, m.work); codes = c.store.ensures ∙ rw (e.acc, m.work); values = c.store-2.ensures ∙ rw (e.acc, m.work); run = rw (← m.work, ← m.run) (search (rules, given_back e.run)) }

pub invariant_of-out : goal.invariant_of-out
invariant_of-out c =
    let q = c.requires.width_in_bounds in
    let r = roomy c.args.width c.args.imm c.args.self q.0 q.1 q.2 in
    rw c.make_room-r.ensures.work (record { low = omega (arith, r.batches, c.requires.base_bound) })
