use mathlib.Core.Path.{◌≡◌, sym, ap, ◌∙◌}
use Prim.Native.Nat.{ℕ, ◌+◌, ◌-◌}
use native.Mathlib.Omega.{arith}
use Rattle.rules.specs.Checks.{placing_fault}
use Rattle.checks.specs.Batch.{under}
use Rattle.commitment.specs.View.{record_of, ops_of}
use Rattle.commitment.proofs.Groups.{batch_lies, full_group, no_slot, slot_taken, slot_free, slots_done}
use Rattle.commitment.proofs.Batch.placing_fault.Goals as goal

pub returns-then-count-j : goal.returns-then-count-j
returns-then-count-j c =
    let l = c.loop-j in
    let a = c.args in
    let e = no_slot _ _ _ _ (batch_lies a.self) (a.g + a.n - l.j) (omega arith) l.j (omega (arith, c.count-count.ensures.0)) in
    rw (sym l.invariant.same ∙ e)

pub returns-then-not-is_empty : goal.returns-then-not-is_empty
returns-then-not-is_empty c =
    let l = c.loop-j in
    let a = c.args in
    let e = slot_taken _ _ _ _ (batch_lies a.self) (a.g + a.n - l.j) (omega arith) l.j (omega (arith, c.count-count.ensures.0)) (λ z. full_group _ _ c.is_empty.ensures c.if-not-is_empty.true (c.group.ensures ∙ z)) in
    rw (sym l.invariant.same ∙ e)

pub loop-j-preserved : goal.loop-j-preserved
loop-j-preserved c =
    let l = c.loop-j in
    let a = c.args in
    let n = a.g + a.n - l.j in
    let d : a.g + a.n - (l.j + 1) ≡ n - 1 = omega arith in
    record {
      low = omega arith;
      same =
          ap (λ (m : ℕ). placing_fault m (under (record_of a.self) (ops_of a.self) a.self.from (l.j + 1))) d
          ∙ slot_free _ _ _ _ (batch_lies a.self) n (omega arith) l.j (omega (arith, c.count-count.ensures.0)) (sym c.group.ensures ∙ c.is_empty.ensures.0 c.if-not-is_empty.false)
          ∙ l.invariant.same;
    }

pub returns : goal.returns
returns c =
    let l = c.loop-j in
    let a = c.args in
    let e = slots_done (a.g + a.n - l.j) _ (omega arith) in
    rw (sym l.invariant.same ∙ e)
