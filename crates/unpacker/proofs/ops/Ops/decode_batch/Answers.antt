use mathlib.Core.Path.{refl, sym, ap, ◌∙◌}
use Prim.Native.Nat.{ℕ}
use native.Mathlib.Omega.{arith}
use Rattle.rules.specs.Answer.{found}
use Rattle.rules.specs.Record.{record_by}
use Rattle.rules.proofs.Operations.{length_operations}
use Rattle.rules.proofs.Runs.{zeros_fitted}
use Rattle.refusal.proofs.Told.{handed_by}
use Rattle.wire.proofs.Stages.{found_by, refused_by_lem, staged_lost, staged_found}
use Rattle.unpacker.proofs.Batch.{total_under, small_under, way_7, way_slots, way_10, way_good, made_size, made_stored}
use Rattle.unpacker.proofs.Padding.{lies, wrong, passes}
use Rattle.unpacker.proofs.ops.Ops.decode_batch.Goals as goal

pub returns-then-self-at : goal.returns-then-self-at
returns-then-self-at c =
    let n = length_operations _ _ c.args.self.even in
    staged_lost (way_7 _ _ _ _ _ _ _ (omega arith)) refl

pub decode_groups-requires : goal.decode_groups-requires
decode_groups-requires c =
    let q = c.requires.sizes in
    (zeros_fitted 8, omega (arith, total_under _ _ c.args.self.low q.1), small_under _ _ c.args.self.low q.0)

pub returns-in_err-count : goal.returns-in_err-count
returns-in_err-count c =
    let q = c.requires.sizes in
    let n = length_operations _ _ c.args.self.even in
    staged_lost (way_slots _ _ _ _ _ _ _ c.args.self.low q.1 (omega arith) _ _ (refused_by_lem c.in_err-count.ensures refl)) (handed_by _ _ _ c.from_residual.ensures.1)

pub batch_padding-requires : goal.batch_padding-requires
batch_padding-requires c =
    let a = c.args in
    let q = c.requires in
    let d = found_by c.in_ok-count.ensures refl in
    let o = made_stored a.deltas a.flags d.item _ _ _ _ _ d.holds.0 d.number c.store_packed.ensures in
    lies _ _ _ _ _ _ _ _ a.self.low q.sizes d.item _ d.is d.holds.1 _ _ o q.at_in_bounds.1 a.self.even (omega arith)

pub returns-in_err-batch_padding : goal.returns-in_err-batch_padding
returns-in_err-batch_padding c =
    let a = c.args in
    let q = c.requires in
    let n = length_operations _ _ a.self.even in
    let d = found_by c.in_ok-count.ensures refl in
    let o = made_stored a.deltas a.flags d.item _ _ _ _ _ d.holds.0 d.number c.store_packed.ensures in
    let p = wrong _ _ _ _ _ _ _ _ a.self.low q.sizes d.item _ d.is d.holds.1 _ _ o q.at_in_bounds.1 _ _ c.in_err-batch_padding.ensures in
    staged_lost (way_10 _ _ _ _ _ _ _ a.self.low q.sizes.1 (omega arith) _ _ d.is p.0) (handed_by _ _ _ c.from_residual-in_err-batch_padding.ensures.1 ∙ rw (p.1, p.2))

pub returns : goal.returns
unfolding record_by
returns c =
    let a = c.args in
    let q = c.requires in
    let n = length_operations _ _ a.self.even in
    let d = found_by c.in_ok-count.ensures refl in
    let o = made_stored a.deltas a.flags d.item _ _ _ _ _ d.holds.0 d.number c.store_packed.ensures in
    let p = passes _ _ _ _ _ _ _ _ a.self.low q.sizes d.item _ d.is d.holds.1 _ _ o q.at_in_bounds.1 c.in_ok-batch_padding.ensures in
    staged_found (way_good _ _ _ _ _ _ _ a.self.low q.sizes.1 (omega arith) _ _ d.is p) (ap (λ (m : ℕ). found m c.in_ok-count.count.next) (sym d.number)) (o, made_size a.deltas a.flags d.item, d.holds.2)
