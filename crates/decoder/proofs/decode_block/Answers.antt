use mathlib.Core.Path.{refl, sym, ap₂}
use Prim.Native.Nat.{ℕ, ◌-◌}
use native.Mathlib.Omega.{arith}
use Rattle.rules.specs.Answer.{good}
use Rattle.rules.specs.Functions.{room_in}
use Rattle.refusal.proofs.Told.{handed}
use Rattle.wire.proofs.Stages.{refused_by_lem, went_by, stuck_by, held}
use Rattle.decoder.proofs.Ops.{items_in, count_on}
use Rattle.decoder.proofs.Blocks as B
use Rattle.decoder.proofs.decode_block.Goals as goal

pub returns-in_err-count : goal.returns-in_err-count
returns-in_err-count c = B.reading_lost (B.block_uncounted _ _ _ _ _ _ _ (sym c.in_err-count.ensures)) (handed _ _ c.from_residual.ensures.1)

pub returns-then-out_codes-n : goal.returns-then-out_codes-n
unfolding room_in
returns-then-out_codes-n c = B.reading_lost (B.block_13 _ _ _ _ _ _ _ (sym c.in_ok-count.ensures) (λ p q. omega (arith, c.then-out_codes-n.either))) refl

pub returns-in_err-batches : goal.returns-in_err-batches
unfolding room_in
returns-in_err-batches c =
    B.reading_lost (B.block_items _ _ _ _ _ _ _ (sym c.in_ok-count.ensures) c.if-out_codes-n.false c.if-out_values-n.false _ _ (refused_by_lem c.in_err-batches.ensures refl)) (handed _ _ c.from_residual-in_err-batches.ensures.1)

pub invariant_of-ops : goal.invariant_of-ops
invariant_of-ops c =
    let i = items_in _ _ _ _ _ _ _ c.in_ok-batches.ensures in
    record { low = omega arith; even = i.even; coded = i.coded }

pub decode_batches-requires : goal.decode_batches-requires
decode_batches-requires c =
    let i = items_in _ _ _ _ _ _ _ c.in_ok-batches.ensures in
    (refl, i.bytes, omega (arith, i.records))

pub returns-in_err-end : goal.returns-in_err-end
unfolding room_in
returns-in_err-end c =
    let i = items_in _ _ _ _ _ _ _ c.in_ok-batches.ensures in
    B.reading_lost (B.block_lost _ _ _ _ _ _ _ (sym c.in_ok-count.ensures) c.if-out_codes-n.false c.if-out_values-n.false _ _ i.is _ _ (stuck_by c.in_err-end.ensures refl)) (handed _ _ c.from_residual-in_err-end.ensures.1)

pub overflow_sub-result : goal.overflow_sub-result
overflow_sub-result c =
    let a = c.args in
    let i = items_in _ _ _ _ _ _ _ c.in_ok-batches.ensures in
    let r = went_by c.in_ok-end.ensures refl in
    omega (arith, held _ _ _ _ (sym c.in_ok-count.ensures) (count_on a.s.now a.at), i.on, r.holds.2)

pub returns : goal.returns
unfolding room_in
returns c =
    let i = items_in _ _ _ _ _ _ _ c.in_ok-batches.ensures in
    let r = went_by c.in_ok-end.ensures refl in
    B.reading_found (B.block_good _ _ _ _ _ _ _ (sym c.in_ok-count.ensures) c.if-out_codes-n.false c.if-out_values-n.false _ _ i.is _ _ r.is)
    (ap₂ (λ (k m : ℕ). good (record { batches = k; operations = m; used = c.in_ok-end.end - c.args.at })) (sym r.holds.0) (sym i.many)) (i.ops, r.holds.1)
