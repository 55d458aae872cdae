use Rattle.std.proofs.Common.{◌≡◌, ℕ, ◌&&◌, eqb, leb, get_or, sym, ◌∙◌, arith, le-leb}
use borrow.Author.Tests.{lt-leb}
use Rattle.rules.specs.Lists.{every}
use Rattle.rules.specs.Checks.{starts_right, record_right}
use Rattle.op_batch.proofs.Bytes.{all_tests}
use Rattle.op_batch.proofs.layout_right.Goals as goal
use Rattle.op_batch.proofs.layout_right.Goals.{then-from-width, else-from-width, then-flags_right, else-flags_right, then-starts-eq0, else-starts-eq0}

pub returns-then-starts_right : goal.returns-then-starts_right
unfolding record_right
returns-then-starts_right c =
    let a = c.args in
    let s = a.starts.now in
    let x : c.if-from-width.value ≡ (leb a.count a.width && every (λ (f : ℕ). leb f 1) a.flags.now) = elim c.if-from-width.branch [ then-from-width w ↦ rw (le-leb a.count a.width (omega (arith, w.if-from-width.true))) (w.value-is ∙ w.flags_right.ensures) | else-from-width w ↦ rw (lt-leb a.count a.width (omega (arith, w.if-from-width.false))) (w.value-is ∙ lt-leb c.from.result a.width w.if-from-width.false) ] in
    let y : c.if-flags_right.value ≡ (c.if-from-width.value && eqb (get_or s 0 0) 0) = elim c.if-flags_right.branch [ then-flags_right w ↦ rw w.if-flags_right.true w.value-is | else-flags_right w ↦ rw w.if-flags_right.false (w.value-is ∙ w.if-flags_right.false) ] in
    let z : c.if-starts-eq0.value ≡ (c.if-flags_right.value && starts_right s) = elim c.if-starts-eq0.branch [ then-starts-eq0 w ↦ rw w.if-starts-eq0.true (w.value-is ∙ w.starts_right.ensures) | else-starts-eq0 w ↦ rw w.if-starts-eq0.false (w.value-is ∙ w.if-starts-eq0.false) ] in
    let t = all_tests _ _ _ _ (eqb (get_or s a.count 0) (get_or s 8 0)) _ _ _ x y z in
    sym (t ∙ rw (c.if-starts_right.true, c.from-then-starts_right.ensures))

pub returns-else-starts_right : goal.returns-else-starts_right
unfolding record_right
returns-else-starts_right c =
    let a = c.args in
    let s = a.starts.now in
    let x : c.if-from-width.value ≡ (leb a.count a.width && every (λ (f : ℕ). leb f 1) a.flags.now) = elim c.if-from-width.branch [ then-from-width w ↦ rw (le-leb a.count a.width (omega (arith, w.if-from-width.true))) (w.value-is ∙ w.flags_right.ensures) | else-from-width w ↦ rw (lt-leb a.count a.width (omega (arith, w.if-from-width.false))) (w.value-is ∙ lt-leb c.from.result a.width w.if-from-width.false) ] in
    let y : c.if-flags_right.value ≡ (c.if-from-width.value && eqb (get_or s 0 0) 0) = elim c.if-flags_right.branch [ then-flags_right w ↦ rw w.if-flags_right.true w.value-is | else-flags_right w ↦ rw w.if-flags_right.false (w.value-is ∙ w.if-flags_right.false) ] in
    let z : c.if-starts-eq0.value ≡ (c.if-flags_right.value && starts_right s) = elim c.if-starts-eq0.branch [ then-starts-eq0 w ↦ rw w.if-starts-eq0.true (w.value-is ∙ w.starts_right.ensures) | else-starts-eq0 w ↦ rw w.if-starts-eq0.false (w.value-is ∙ w.if-starts-eq0.false) ] in
    let t = all_tests _ _ _ _ (eqb (get_or s a.count 0) (get_or s 8 0)) _ _ _ x y z in
    c.if-starts_right.false ∙ sym (t ∙ rw c.if-starts_right.false)
