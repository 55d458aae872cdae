use mathlib.Core.Path.{◌≡◌, refl, sym, ap, ◌∙◌}
use Prim.Native.Nat.{ℕ}
use native.Mathlib.Omega.{arith}
use lib.ListN.{take}
use Rattle.rules.specs.Record.{record_at}
use Rattle.rules.specs.Compare.{flags_set, paddings_in}
use Rattle.op_batch.proofs.Right.{flags_ahead}
use Rattle.checks.proofs.Groups.{laid}
use Rattle.comparison.proofs.Blocks.{structured, fits_at}
use Rattle.comparison.proofs.Flags.{flags_turn, flags_rest}
use Rattle.comparison.proofs.Block.paddings.Goals as goal

pub loop-g-init : goal.loop-g-init
unfolding flags_set
loop-g-init c = (c.flags-left.ensures, refl, omega arith)

pub returns-then-left-eq0 : goal.returns-then-left-eq0
unfolding paddings_in
returns-then-left-eq0 c =
    let l = c.loop-g in
    let v = l.invariant in
    let r = record_at c.args.self.now.records.now c.args.b in
    let x = laid _ _ (fits_at _ _ _ (structured c.args.self.now.taken) c.args.b c.requires) in
    let e = c.count-g-end.ensures.0 in
    (v.1 ∙ sym (flags_rest l._g r.count r.flags (omega arith) (sym v.0 ∙ c.if-left-eq0.true)), omega (arith, v.2, x.count))

pub loop-g-preserved : goal.loop-g-preserved
loop-g-preserved c =
    let l = c.loop-g in
    let v = l.invariant in
    let r = record_at c.args.self.now.records.now c.args.b in
    let x = laid _ _ (fits_at _ _ _ (structured c.args.self.now.taken) c.args.b c.requires) in
    let h = c.count-g-end.ensures.0 in
    let f = x.sound.flags l._g (omega (arith, x.flags, x.count)) in
    let e = flags_ahead x.width r x.sound x.flags l._g (omega (arith, x.count)) in
    let t = flags_turn r.flags l._g (omega (arith, x.flags, x.count)) f in
    (omega (arith, v.0, e, f), omega (arith, v.0, v.1, e, f, t), omega (arith, v.0, v.2, e, f))

pub returns : goal.returns
unfolding paddings_in
returns c =
    let l = c.loop-g in
    let v = l.invariant in
    let r = record_at c.args.self.now.records.now c.args.b in
    let x = laid _ _ (fits_at _ _ _ (structured c.args.self.now.taken) c.args.b c.requires) in
    let e : l._g ≡ r.count = omega (arith, c.count-g-end.ensures.0) in
    (v.1 ∙ ap (λ (k : ℕ). flags_set (take k r.flags)) e, omega (arith, v.2, x.count))
