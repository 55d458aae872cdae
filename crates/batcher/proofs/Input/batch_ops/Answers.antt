use native.Mathlib.Omega.{arith}
use lib.ListN.{get_or}
use Rattle.rules.specs.Functions.{arena}
use Rattle.rules.proofs.Operations.{kind_at, admitted}
use Rattle.refusal.proofs.Told.{handed}
use Rattle.operation.proofs.Faults.{faultless}
use Rattle.batcher.proofs.InHand.{going_start, going_good, going_turn, going_here, going_end, going_fault}
use Rattle.batcher.proofs.Input.batch_ops.Goals as goal

pub loop-i-init : goal.loop-i-init
loop-i-init c = rw c.new.ensures (omega arith, going_start _ c.args.self.wide.0 _ _ _ _ c.requires)

pub returns-in_err-fault : goal.returns-in_err-fault
returns-in_err-fault c = going_fault c.loop-i.invariant.1 c.loop-i-test.true (omega (arith, c.args.self.even)) _ _ c.in_err-fault.ensures _ (handed _ _ c.from_residual.ensures.1)

pub has_immediate-imm-requires : goal.has_immediate-imm-requires
has_immediate-imm-requires c = omega (arith, (admitted _ _ (faultless _ _ c.in_ok-fault.ensures)).code, c.args.self.whole)

pub step-s-requires : goal.step-s-requires
step-s-requires c =
    let g = c.loop-i.invariant.1 in record { width_in_bounds = (c.args.self.wide.0, c.args.self.wide.1, going_good g); base_bound = (omega (arith, g.base, c.args.self.few), omega (arith, g.batches, c.args.self.few), (admitted _ _ (faultless _ _ c.in_ok-fault.ensures)).code) }

pub join_ops-t-requires : goal.join_ops-t-requires
join_ops-t-requires c =
    let p = c.args.self.wide in
    let k = kind_at c.args.self.table.now (get_or c.args.self.codes.now c.loop-i.i 0) (omega (arith, (admitted _ _ (faultless _ _ c.in_ok-fault.ensures)).code, c.args.self.whole)) in
    let e = rw (c.has_immediate-imm.ensures, k) at c.step-s.ensures in record { place = omega arith; going = going_here (going_turn c.loop-i.invariant.1 p.0 p.1 c.loop-i-test.true (omega (arith, c.args.self.even)) c.args.self.whole (faultless _ _ c.in_ok-fault.ensures) e.work (λ j. arena (e.codes j) (e.values j) (e.run j))) }

pub returns : goal.returns
returns c =
    let l = c.loop-i in
    let e = c.end_batch-e.ensures in
    going_end l.invariant.1 c.args.self.wide.0 c.args.self.wide.1 c.loop-i-test.false e.work (λ j. arena l.codes l.values (e.run j))
