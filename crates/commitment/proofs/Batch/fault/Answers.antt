use mathlib.Core.Path.{refl, sym, ap, ◌∙◌}
use Prim.Native.Nat.{ℕ}
use native.Mathlib.Omega.{arith}
use Rattle.operation.specs.Verdict.{one_fault}
use Rattle.operation.proofs.Faults.{faultless, faulted}
use Rattle.refusal.proofs.Told.{handed}
use Rattle.commitment.proofs.Groups.{batch_lies, full_group, groups_done, group_skip, group_wrong, group_unplaced, group_unequal, group_right, fault_at, fault_last, apt_group, lent_number}
use Rattle.commitment.proofs.Batch.fault.Goals as goal

pub loop-g-preserved-then-is_empty : goal.loop-g-preserved-then-is_empty
loop-g-preserved-then-is_empty c =
    let l = c.loop-g in
    let k = c.args.self in
    group_skip k.block.table.now _ _ _ _ (batch_lies k) l.g (omega (arith, c.count-g-end.ensures.0)) _ c.group-group.ensures (c.is_empty.ensures.0 c.if-is_empty.true) ∙ l.invariant

pub group_number-requires : goal.group_number-requires
group_number-requires c =
    let k = c.args.self in
    let g = c.group-group.result in
    (g.few, apt_group _ _ _ _ _ _ _ (batch_lies k).equal c.requires c.group-group.ensures g.same)

pub returns-then-number-group_number : goal.returns-then-number-group_number
returns-then-number-group_number c =
    let l = c.loop-g in
    let k = c.args.self in
    let g = c.group-group.result in
    let e = group_wrong k.block.table.now _ _ _ _ (batch_lies k) l.g (omega (arith, c.count-g-end.ensures.0)) _ c.group-group.ensures (full_group _ _ c.is_empty.ensures c.if-is_empty.false) (λ z. c.if-number-group_number.true (c.number.ensures ∙ z ∙ sym (c.group_number.ensures ∙ lent_number _ _ g.same))) in
    rw (fault_at k.block.table.now k 16 (sym e ∙ l.invariant) (λ z. omega arith))

pub returns-in_err-placing_fault : goal.returns-in_err-placing_fault
returns-in_err-placing_fault c =
    let l = c.loop-g in
    let k = c.args.self in
    let g = c.group-group.result in
    let f = faulted _ _ _ _ c.in_err-placing_fault.ensures in
    let e = group_unplaced k.block.table.now _ _ _ _ (batch_lies k) l.g (omega (arith, c.count-g-end.ensures.0)) _ c.group-group.ensures (full_group _ _ c.is_empty.ensures c.if-is_empty.false)
    (sym c.number.ensures ∙ c.if-number-group_number.false ∙ c.group_number.ensures ∙ lent_number _ _ g.same) _ c.immediates.ensures.count _ refl f.some in
    handed _ _ c.from_residual.ensures.1 ∙ c.in_err-placing_fault.ensures ∙ ap (λ (n : ℕ). one_fault n k.b) (sym (fault_at k.block.table.now k _ (sym e ∙ l.invariant) f.some))

pub returns-then-not-values_right : goal.returns-then-not-values_right
returns-then-not-values_right c =
    let l = c.loop-g in
    let k = c.args.self in
    let g = c.group-group.result in
    let e = group_unequal k.block.table.now _ _ _ _ (batch_lies k) l.g (omega (arith, c.count-g-end.ensures.0)) _ c.group-group.ensures (full_group _ _ c.is_empty.ensures c.if-is_empty.false)
    (sym c.number.ensures ∙ c.if-number-group_number.false ∙ c.group_number.ensures ∙ lent_number _ _ g.same) _ c.immediates.ensures.count (faultless _ _ c.in_ok-placing_fault.ensures) (sym c.values_right.ensures ∙ c.if-not-values_right.true) in
    rw (fault_at k.block.table.now k 16 (sym e ∙ l.invariant) (λ z. omega arith))

pub loop-g-preserved : goal.loop-g-preserved
loop-g-preserved c =
    let l = c.loop-g in
    let k = c.args.self in
    let g = c.group-group.result in
    group_right k.block.table.now _ _ _ _ (batch_lies k) l.g (omega (arith, c.count-g-end.ensures.0)) _ c.group-group.ensures (full_group _ _ c.is_empty.ensures c.if-is_empty.false)
    (sym c.number.ensures ∙ c.if-number-group_number.false ∙ c.group_number.ensures ∙ lent_number _ _ g.same) _ c.immediates.ensures.count (faultless _ _ c.in_ok-placing_fault.ensures) (sym c.values_right.ensures ∙ c.if-not-values_right.false) ∙ l.invariant

pub returns-then-empty_zero : goal.returns-then-empty_zero
returns-then-empty_zero c =
    let l = c.loop-g in
    let k = c.args.self in
    let e = groups_done k.block.table.now _ _ _ _ (batch_lies k) l.g (omega (arith, c.count-g-end.ensures.0)) in
    rw (fault_last k.block.table.now k (sym l.invariant ∙ e) _ c.empty_zero.ensures, c.if-empty_zero.true)

pub returns-else-empty_zero : goal.returns-else-empty_zero
returns-else-empty_zero c =
    let l = c.loop-g in
    let k = c.args.self in
    let e = groups_done k.block.table.now _ _ _ _ (batch_lies k) l.g (omega (arith, c.count-g-end.ensures.0)) in
    rw (fault_last k.block.table.now k (sym l.invariant ∙ e) _ c.empty_zero.ensures, c.if-empty_zero.false)
