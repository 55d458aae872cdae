use mathlib.Core.Path.{sym, ◌∙◌}
use native.Mathlib.Nat.{sub-zero}
use native.Mathlib.Omega.{arith}
use Rattle.refusal.proofs.Told.{handed}
use Rattle.head.proofs.Heads.{turn, stop, done}
use Rattle.head.proofs.pass_ops.Goals as goal

pub loop-i-init : goal.loop-i-init
loop-i-init c = simp sub-zero

pub returns-in_err-next : goal.returns-in_err-next
returns-in_err-next c =
    let a = c.args in
    let l = c.loop-i in
    handed _ _ c.from_residual.ensures.1 ∙ sym (stop a.table.now a.s.now a.n l.next l.i _ _ (omega arith) (sym c.in_err-next.ensures)) ∙ l.invariant

pub loop-i-preserved : goal.loop-i-preserved
loop-i-preserved c =
    let a = c.args in
    let l = c.loop-i in
    turn a.table.now a.s.now a.n l.next l.i _ _ (omega arith) (sym c.in_ok-next.ensures) ∙ l.invariant

pub returns : goal.returns
returns c =
    let a = c.args in
    let l = c.loop-i in
    sym (done a.table.now a.s.now a.n l.next l.i (omega arith)) ∙ l.invariant
