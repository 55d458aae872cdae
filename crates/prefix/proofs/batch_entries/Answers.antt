use mathlib.Core.Path.{◌≡◌, sym}
use Prim.Native.Nat.{◌+◌, ◌*◌, ◌≤◌}
use native.Mathlib.Omega.{arith}
use Rattle.op_batch.proofs.Right.{flags_turn}
use Rattle.checks.proofs.Groups.{laid}
use Rattle.prefix.proofs.Entries.{first_on, wait_on, run_on, last_on, none_ahead, rising}
use Rattle.prefix.proofs.batch_entries.Goals as goal
use Rattle.prefix.proofs.batch_entries.Goals.{then-pads-eq1, else-pads-eq1, else-loop-g-test, then-loop-g-test+then-left-eq0}

pub loop-g-init : goal.loop-g-init
loop-g-init c =
    let x = laid _ _ c.requires.fits.0 in
    record { start = sym x.sound.first; entries = omega (arith, c.requires); paddings = omega (arith, c.requires); left = c.flags-left.ensures; on = first_on _ _ _ _ _ _ }

pub loop-g-preserved : goal.loop-g-preserved
loop-g-preserved c =
    let l = c.loop-g in
    let i = l.invariant in
    let x = laid _ _ c.requires.fits.0 in
    let n = c.kept_in.ensures in
    let up = rising _ _ c.requires.fits.0 l.g (omega arith) in
    let sum : l.done.entries + (l.done.waiting + c.kept_in.result) ≤ 72 * c.args.batch.b + c.start-end.result = omega (arith, n, up, i.start, i.entries, c.start-end.ensures) in
    let left = flags_turn _ _ x.sound x.flags l.g l.left i.left (omega arith) in
    elim c.if-pads-eq1.branch [
      | then-pads-eq1 w ↦
          rw (w.out-is, w.done-is)
          (record {
            start = c.start-end.ensures.0;
            entries = omega (arith, sum);
            paddings = omega (arith, i.paddings);
            left = left;
            on = run_on _ _ x _ _ _ _ _ _ _ _ _ i.on (omega arith) _ _ _ i.start c.start-end.ensures.0 c.flag.ensures _ _ n.0 c.pads_in-pads.ensures.0 w.if-pads-eq1.true _ w.fill.ensures;
          })
      | else-pads-eq1 w ↦
          let none : c.pads_in-pads.result ≡ 0 = omega (arith, w.if-pads-eq1.false, c.pads_in-pads.ensures) in
          rw (w.out-is, w.done-is)
          (record {
            start = c.start-end.ensures.0;
            entries = omega (arith, sum);
            paddings = omega (arith, i.paddings);
            left = left;
            on = wait_on _ _ x _ _ _ _ _ _ _ _ _ i.on (omega arith) _ _ _ i.start c.start-end.ensures.0 c.flag.ensures _ _ n.0 c.pads_in-pads.ensures.0 none;
          })
    ]

pub returns-clause-goes : goal.returns-clause-goes
returns-clause-goes c =
    let l = c.loop-g in
    let i = l.invariant in
    let x = laid _ _ c.requires.fits.0 in
    let none : l.left ≡ 0 = elim c.loop-g-test.branch [ else-loop-g-test w ↦ none_ahead _ x l.g l.left i.left (omega arith) | then-loop-g-test+then-left-eq0 w ↦ omega arith ] in
    last_on _ _ x _ _ _ _ _ _ _ _ _ i.on l.left (omega arith) i.left none _ _ i.start c.len.ensures.0
