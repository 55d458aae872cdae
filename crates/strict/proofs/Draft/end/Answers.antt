use mathlib.Core.Path.{refl, sym, ap, ◌∙◌}
use native.Mathlib.Omega.{arith}
use Rattle.accumulator.proofs.Good.{target_bounds}
use Rattle.strict.specs.Draft.{Draft, shape_of, closed_draft, ended_draft}
use Rattle.strict.proofs.Drafts.{closed_next, times_turn, times_none}
use Rattle.strict.proofs.Draft.end.Goals as goal

pub loop-init : goal.loop-init
loop-init c =
    let b = target_bounds c.self.inside.acc.next c.self.invariant.good.high in
    (ap (λ (d : Draft). d.acc.next) (sym c.self.view_is), rw c.target_num_groups-end.ensures b.1, refl)

pub loop-preserved : goal.loop-preserved
loop-preserved c =
    let v = c.loop.invariant in
    let n = closed_next c.loop.d in
    rw c.close-d.ensures (omega arith, v.1, times_turn _ c.loop.d (omega arith) ∙ v.2)

pub returns : goal.returns
unfolding ended_draft
returns c =
    let v = c.loop.invariant in
    c.closed.ensures ∙ ap (λ (d : Draft). shape_of (closed_draft d)) (sym (times_none _ c.loop.d (omega arith)) ∙ v.2 ∙ rw (c.target_num_groups-end.ensures, ← c.self.view_is))
