use mathlib.Core.Path.{sym, ◌∙◌}
use native.Mathlib.Omega.{arith}
use Rattle.checks.proofs.Walk.{summed_first, summed_stop, summed_short, summed_done, summed_next}
use Rattle.checks.proofs.Arena.structure_fault.Goals as goal

pub loop-b-init : goal.loop-b-init
loop-b-init c = let p = c.requires in (summed_first _ _ _ _ p.1, p.0)

pub returns-then-not-right : goal.returns-then-not-right
returns-then-not-right c =
    let l = c.loop-b in
    (summed_stop _ _ _ _ _ _ _ l.invariant.0 (omega arith) (sym c.right.ensures ∙ c.if-not-right.true))

pub loop-b-preserved : goal.loop-b-preserved
loop-b-preserved c =
    let l = c.loop-b in
    (summed_next _ _ _ _ _ _ _ l.invariant.0 (omega arith) (sym c.right.ensures ∙ c.if-not-right.false) _ c.len-sum.ensures.0, l.invariant.1)

pub returns-then-sum-self : goal.returns-then-sum-self
returns-then-sum-self c = let l = c.loop-b in (summed_short _ _ _ _ _ _ _ l.invariant.0 (omega arith) c.if-sum-self.true)

pub returns : goal.returns
returns c = let l = c.loop-b in (summed_done _ _ _ _ _ _ _ l.invariant.0 (omega arith) c.if-sum-self.false)
