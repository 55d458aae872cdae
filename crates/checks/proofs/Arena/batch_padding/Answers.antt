use mathlib.Core.Path.{refl, sym, ◌∙◌}
use native.Mathlib.Omega.{arith}
use Rattle.op_batch.proofs.Right.{flags_turn}
use Prim.Native.Nat.{◌<◌}
use Rattle.checks.proofs.Groups.{lying}
use Rattle.checks.proofs.Flags.{plain, over, empty, other, noop, no_flags, faulty, faultless}
use Rattle.checks.proofs.Arena.batch_padding.Goals as goal

pub loop-g-init : goal.loop-g-init
loop-g-init c =
    (lying _ _ _ c.requires, c.count-count.ensures.0, refl, c.flags-left.ensures, omega arith)

pub loop-g-preserved-then-flag-eq0 : goal.loop-g-preserved-then-flag-eq0
loop-g-preserved-then-flag-eq0 c =
    let l = c.loop-g in
    let v = l.invariant in
    let x = v.0 in
    let h : l.g < 8 = omega arith in
    (x, v.1, plain _ _ _ _ x l.g h (sym c.flag.ensures ∙ c.if-flag-eq0.true) ∙ v.2, flags_turn _ _ x.laid.sound x.laid.flags l.g l.left v.3 h, v.4)

pub returns-then-count-g : goal.returns-then-count-g
returns-then-count-g c =
    let l = c.loop-g in
    let v = l.invariant in
    faultless _ _ _ _ v.0 l.g v.2 _ (over _ _ _ l.g (omega arith))

pub returns-then-start-end : goal.returns-then-start-end
returns-then-start-end c =
    let l = c.loop-g in
    let v = l.invariant in
    let x = v.0 in
    let h : l.g < 8 = omega arith in
    faulty _ _ _ _ x l.g v.2 _ (empty _ _ _ _ x l.g h (λ z. c.if-flag-eq0.false (c.flag.ensures ∙ z)) (omega arith) _ _ c.start.ensures.0 c.start-end.ensures.0 c.if-start-end.true)

pub returns-then-self-from-ne0 : goal.returns-then-self-from-ne0
returns-then-self-from-ne0 c =
    let l = c.loop-g in
    let v = l.invariant in
    let x = v.0 in
    let h : l.g < 8 = omega arith in
    faulty _ _ _ _ x l.g v.2 _ (other _ _ _ _ x l.g h (λ z. c.if-flag-eq0.false (c.flag.ensures ∙ z)) (omega arith) _ _ c.start.ensures.0 c.start-end.ensures.0 c.if-start-end.false c.if-self-from-ne0.true)

pub loop-g-preserved : goal.loop-g-preserved
loop-g-preserved c =
    let l = c.loop-g in
    let v = l.invariant in
    let x = v.0 in
    let h : l.g < 8 = omega arith in
    (x, v.1, noop _ _ _ _ x l.g h (λ z. c.if-flag-eq0.false (c.flag.ensures ∙ z)) (omega arith) _ _ c.start.ensures.0 c.start-end.ensures.0 c.if-start-end.false c.if-self-from-ne0.false ∙ v.2, flags_turn _ _ x.laid.sound x.laid.flags l.g l.left v.3 h, v.4)

pub returns-then-left-eq0 : goal.returns-then-left-eq0
returns-then-left-eq0 c =
    let l = c.loop-g in
    let v = l.invariant in
    faultless _ _ _ _ v.0 l.g v.2 _ (no_flags _ _ _ _ v.0 l.g l.left (omega arith) v.3 c.if-left-eq0.true)

pub returns : goal.returns
returns c =
    let l = c.loop-g in
    let v = l.invariant in
    faultless _ _ _ _ v.0 l.g v.2 _ (over _ _ _ l.g (omega (arith, v.0.laid.count)))
