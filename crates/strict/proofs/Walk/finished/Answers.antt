use mathlib.Core.Path.{◌≡◌, sym, ap, ◌∙◌}
use mathlib.Core.Bool.{true, ◌||◌}
use mathlib.Core.Logic.{inl, inr}
use borrow.Author.Tests.{lt-ltb, le-ltb, eq-eqb, ne_eqb}
use lib.Dec.{ltb, eqb}
use Rattle.refusal.proofs.Told.{handed}
use Rattle.strict.specs.declared.Work.{Work}
use Rattle.strict.specs.Model.{judged, verdict_in}
use Rattle.strict.proofs.Walk.finished.Goals as goal

pub returns-then-work-eq0 : goal.returns-then-work-eq0
unfolding verdict_in judged
returns-then-work-eq0 c =
    let raw = c.add_batches-work.result.raw in
    let e : (eqb raw 0 || ltb 16384 raw) ≡ true = elim c.then-work-eq0.either [ inl z ↦ rw (eq-eqb _ _ z) | inr n ↦ rw (ne_eqb _ _ n.0, lt-ltb _ _ n.1) ] in
    rw (← c.add_batches-work.ensures, e)

pub returns-in_err-b : goal.returns-in_err-b
unfolding verdict_in judged
returns-in_err-b c =
    let s = ap (λ (w : Work). w.same) (sym c.end_batch.ensures) ∙ c.in_err-b.was in
    handed _ _ c.from_residual.ensures.1 ∙ rw (← c.add_batches-work.ensures, ne_eqb _ _ c.if-work-eq0.false, le-ltb _ _ c.if-work-gt16384.false, s)

pub returns-then-b-batches : goal.returns-then-b-batches
unfolding verdict_in judged
returns-then-b-batches c =
    let s = ap (λ (w : Work). w.same) (sym c.end_batch.ensures) ∙ c.in_ok-b.was in
    rw (← c.add_batches-work.ensures, ne_eqb _ _ c.if-work-eq0.false, le-ltb _ _ c.if-work-gt16384.false, s, lt-ltb _ _ (rw c.batches.ensures at c.if-b-batches.true))

pub returns : goal.returns
unfolding verdict_in judged
returns c =
    let s = ap (λ (w : Work). w.same) (sym c.end_batch.ensures) ∙ c.in_ok-b.was in
    rw (← c.add_batches-work.ensures, ne_eqb _ _ c.if-work-eq0.false, le-ltb _ _ c.if-work-gt16384.false, s, le-ltb _ _ (rw c.batches.ensures at c.if-b-batches.false))
