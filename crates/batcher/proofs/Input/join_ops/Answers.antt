use Rattle.accumulator.proofs.Good.{joined_fits}
use mathlib.Core.Path.{◌≡◌}
use Prim.Native.Nat.{◌+◌, ◌-◌}
use native.Mathlib.Omega.{arith}
use Rattle.batcher.proofs.InHand.{going_good}
use Rattle.batcher.proofs.Join.{joins_small, going_more}
use Rattle.batcher.proofs.Input.join_ops.Goals as goal

pub overflow_mul-number : goal.overflow_mul-number
overflow_mul-number c =
    rw c.from.ensures (omega (arith, joined_fits _ _ (joins_small c.in-Some.ensures.1) (going_good c.loop-n.invariant.1) (omega (arith, c.most-end.ensures, c.loop-n-test.true))))

pub overflow_add-number : goal.overflow_add-number
overflow_add-number c =
    rw c.from.ensures (omega (arith, joined_fits _ _ (joins_small c.in-Some.ensures.1) (going_good c.loop-n.invariant.1) (omega (arith, c.most-end.ensures, c.loop-n-test.true))))

pub overflow_mul-unit : goal.overflow_mul-unit
overflow_mul-unit c = omega (arith, joined_fits _ _ (joins_small c.in-Some.ensures.1) (going_good c.loop-n.invariant.1) (omega (arith, c.most-end.ensures, c.loop-n-test.true)))

pub loop-n-preserved : goal.loop-n-preserved
loop-n-preserved c =
    let a = c.args in
    let l = c.loop-n in
    let j = c.in-Some.ensures.1 in
    let e : a.i + (l.n + 1) - 1 ≡ a.i + l.n = omega arith in (
      λ h. rw e (joins_small j),
      rw c.from.ensures
          (going_more a.work a.i l.n l.next l.number l.unit l.invariant.1 a.self.wide.0 a.self.wide.1 a.self.whole j c.in-Some.ensures.0 (omega (arith, c.most-end.ensures, c.loop-n-test.true)) (omega (arith, c.most-end.ensures, c.loop-n-test.true)) (omega (arith, a.self.few, c.most-end.ensures, c.loop-n-test.true)) c.keep.ensures),
    )

pub slots-requires : goal.slots-requires
slots-requires c = omega (arith, (going_good c.loop-n.invariant.1).high, c.args.self.wide)
