use mathlib.Core.Path.{refl, sym, ◌∙◌}
use native.Mathlib.Omega.{arith}
use Prim.Native.Nat.{◌+◌, ◌-◌, ◌/◌, ◌%◌}
use Rattle.rules.specs.Digits.{digits}
use Rattle.rules.proofs.Digits.{digits_turn, digits_end}
use Rattle.wire.proofs.Laws.{up_to_stop, up_to_turn, up_to_end}
use Rattle.wire.proofs.deltas_right.Goals as goal

pub loop-i-init : goal.loop-i-init
loop-i-init c = refl

pub returns-then-left-gt9 : goal.returns-then-left-gt9
returns-then-left-gt9 c =
    let l = c.loop-i in
    sym (up_to_stop 9 (l.left % 16) (digits 16 (8 - (l._i + 1)) (l.left / 16)) c.if-left-gt9.true) ∙ (rw (digits_turn 16 8 l._i l.left (omega arith)) at l.invariant)

pub loop-i-preserved : goal.loop-i-preserved
loop-i-preserved c =
    let l = c.loop-i in
    sym (up_to_turn 9 (l.left % 16) (digits 16 (8 - (l._i + 1)) (l.left / 16)) c.if-left-gt9.false) ∙ (rw (digits_turn 16 8 l._i l.left (omega arith)) at l.invariant)

pub returns : goal.returns
returns c =
    let l = c.loop-i in
    sym (up_to_end 9) ∙ (rw (digits_end 16 8 l._i l.left (omega arith)) at l.invariant)
