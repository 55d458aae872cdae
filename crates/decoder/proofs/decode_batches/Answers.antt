use mathlib.Core.Path.{refl}
use native.Mathlib.Omega.{arith}
use Rattle.rules.proofs.Operations.{length_operations}
use Rattle.refusal.proofs.Told.{handed}
use Rattle.decoder.proofs.Sizes.{sized_by, flags_found}
use Rattle.wire.proofs.Stages.{went_by, stuck_by, passed_lost, passed_found}
use Rattle.decoder.proofs.Blocks as B
use Rattle.decoder.proofs.decode_batches.Goals as goal

pub returns-in_err-flags : goal.returns-in_err-flags
returns-in_err-flags c = passed_lost (B.records_6 _ _ _ _ _ _ _ _ (stuck_by (sized_by c.requires.0 c.in_err-flags.ensures) refl)) (handed _ _ c.from_residual.ensures.1)

pub decode_each-requires : goal.decode_each-requires
decode_each-requires c =
    let a = c.requires in
    let z = (went_by (sized_by a.0 c.in_ok-flags.ensures) refl).holds in
    record { k_in_bounds = (omega arith, omega (arith, z.to), omega arith); right = z.right }

pub returns-in_err-end : goal.returns-in_err-end
returns-in_err-end c =
    let e = c.requires.0 in
    let g = went_by (sized_by e c.in_ok-flags.ensures) refl in
    passed_lost (B.records_lost _ _ _ _ _ _ _ _ g.is g.holds (flags_found e _ _ _) _ _ (stuck_by c.in_err-end.ensures refl)) (handed _ _ c.from_residual-in_err-end.ensures.1)

pub returns-then-end-ops : goal.returns-then-end-ops
returns-then-end-ops c =
    let e = c.requires.0 in
    let g = went_by (sized_by e c.in_ok-flags.ensures) refl in
    let r = went_by c.in_ok-end.ensures refl in
    let n = length_operations _ _ c.args.ops.even in
    passed_lost (B.records_11 _ _ _ _ _ _ _ _ g.is g.holds (flags_found e _ _ _) _ _ r.is (omega arith)) refl

pub overflow_add-result : goal.overflow_add-result
overflow_add-result c = omega (arith, (went_by (sized_by c.requires.0 c.in_ok-flags.ensures) refl).holds.to)

pub returns : goal.returns
returns c =
    let e = c.requires.0 in
    let g = went_by (sized_by e c.in_ok-flags.ensures) refl in
    let r = went_by c.in_ok-end.ensures refl in
    let n = length_operations _ _ c.args.ops.even in
    passed_found (B.records_good _ _ _ _ _ _ _ _ g.is g.holds (flags_found e _ _ _) _ _ r.is (omega arith)) refl (r.holds.0, r.holds.1, omega (arith, g.holds.to))
