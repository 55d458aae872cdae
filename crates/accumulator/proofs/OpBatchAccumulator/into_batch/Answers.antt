use mathlib.Core.Path.{◌≡◌, refl, sym, ap, ◌∙◌}
use Prim.Native.Nat.{◌+◌, ◌-◌}
use native.Mathlib.Omega.{arith}
use Rattle.rules.specs.Batching.{target}
use Rattle.op_batch.specs.RecordMut.{stored}
use Rattle.accumulator.specs.declared.OpBatchAccumulator.{OpBatchAccumulator}
use Rattle.accumulator.specs.Model.{pad_of, filled_run, last_acc, ended_total, ended_run}
use Rattle.accumulator.proofs.Good.{target_bounds, turned_good, turned_next, filled_turn, filled_none, stored_same, run_turn, run_none}
use Rattle.accumulator.proofs.OpBatchAccumulator.into_batch.Goals as goal

pub loop-init : goal.loop-init
loop-init c = (c.requires.good, refl, rw c.target_num_groups-count.ensures (target_bounds c.args.self.next c.requires.good.high).1, refl, refl)

pub finalize_op_group-a-requires : goal.finalize_op_group-a-requires
finalize_op_group-a-requires c = record { good = c.loop.invariant.0 }

pub loop-preserved : goal.loop-preserved
loop-preserved c =
    let l = c.loop in
    let e = c.finalize_op_group-a in
    let n = turned_next l.a in
    rw (e.ensures.acc, e.ensures.run)
    (turned_good l.a l.invariant.0 (omega arith), omega arith, l.invariant.2, filled_turn _ l.a (omega arith) ∙ l.invariant.3, stored_same l.out (run_turn _ l.a _ _ (omega arith)) ∙ l.invariant.4)

pub close-total-requires : goal.close-total-requires
close-total-requires c = record { good = c.loop.invariant.0 }

pub overflow_cast-count : goal.overflow_cast-count
overflow_cast-count c = omega (arith, c.loop.invariant.2)

pub returns : goal.returns
unfolding last_acc ended_total ended_run
returns c =
    let l = c.loop in
    let g = c.target_num_groups-count.ensures in
    let a = c.args in
    let k = c.close-total.ensures in
    let la : l.a ≡ last_acc a.self = sym (filled_none _ l.a (omega arith)) ∙ l.invariant.3 ∙ rw g in
    let lr : l.out ≡ stored (filled_run (target a.self.next - a.self.next) a.out.now.b a.self) a.out.now = stored_same l.out (sym (run_none _ l.a _ _ (omega arith))) ∙ l.invariant.4 ∙ rw g in
    record { total = k.total ∙ ap (λ (x : OpBatchAccumulator). x.total + pad_of x) la; run = c.set_count.ensures ∙ rw (k.run, la, lr, g) }
