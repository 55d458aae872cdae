use mathlib.Core.Path.{refl, ◌∙◌}
use native.Mathlib.Omega.{arith}
use Rattle.refusal.proofs.Told.{handed}
use Rattle.wire.proofs.Stages.{found_by, refused_by_lem, passed_lost, passed_found}
use Rattle.decoder.proofs.Batches as B
use Rattle.decoder.proofs.decode_each.Goals as goal

pub loop-b-init : goal.loop-b-init
loop-b-init c = (omega arith, refl, B.start _ _ _ _ _ _ _ _)

pub returns-in_err-batch : goal.returns-in_err-batch
returns-in_err-batch c =
    let l = c.loop-b in
    passed_lost (B.stop l.invariant.2 (omega arith) c.le.ensures.0 (refused_by_lem c.in_err-batch.ensures refl)) (handed _ _ c.from_residual.ensures.1)

pub loop-b-preserved : goal.loop-b-preserved
loop-b-preserved c =
    let l = c.loop-b in
    let r = found_by c.in_ok-batch.ensures refl in
    let q = r.holds in (
      q.2,
      c.decode_batch.auto.records ∙ l.invariant.1,
      rw q.0 (B.turn l.invariant.2 (omega arith) c.le.ensures.0 r.is q.1 (omega (arith, c.requires.k_in_bounds.2))),
    )

pub returns : goal.returns
returns c =
    let l = c.loop-b in
    let g = l.invariant.2 in
    passed_found (B.done g (omega arith)) refl (omega (arith, g.many), (rw g.size g.bytes, g.size ∙ rw g.many))
