use native.Mathlib.Omega.{arith}
use Rattle.std.proofs.Common.{◌≡◌, ◌<◌, length, false}
use Rattle.std.specs.Bool.{◌==◌}
use Rattle.std.proofs.lemmas.Bool.Decides.{nat_tests}
use Rattle.text.specs.Base.{base}
use Rattle.text.proofs.Numerals.{some_base, begun, one_more, no_digit, too_large, all_read, was_none, was_some, no_number}
use Rattle.text.proofs.number.Goals as goal

pub loop-b-init : goal.loop-b-init
loop-b-init c = (omega arith, begun _ _)

pub returns-in_err-digit : goal.returns-in_err-digit
returns-in_err-digit c =
    let a = c.args in
    let l = c.loop-b in
    no_number _ _ _ _ c.from_residual.ensures.0 (no_digit (base a.radix) a.text.now l.b-index l.value l.invariant.1 c.loop-b-test.true _ (was_none c.digit.result _ c.in_err-digit.ensures.ok_part c.digit.ensures))

pub returns-in_err-value : goal.returns-in_err-value
returns-in_err-value c =
    let a = c.args in
    let l = c.loop-b in
    let digit = was_some c.digit.result c.in_ok-digit.digit c.in_ok-digit.ensures.ok_part c.digit.ensures in
    let none = was_none c.with_digit.result _ c.in_err-value.ensures.ok_part c.with_digit.ensures in
    no_number _ _ _ _ c.from_residual-in_err-value.ensures.0 (too_large (base a.radix) a.text.now l.b-index l.value l.invariant.1 c.loop-b-test.true _ (some_base a.radix) (omega (arith, none, digit.1)))

pub loop-b-preserved : goal.loop-b-preserved
loop-b-preserved c =
    let a = c.args in
    let l = c.loop-b in
    let digit = was_some c.digit.result c.in_ok-digit.digit c.in_ok-digit.ensures.ok_part c.digit.ensures in
    let more = was_some c.with_digit.result c.in_ok-value.value c.in_ok-value.ensures.ok_part c.with_digit.ensures in
    (omega (arith, more.0, more.1), one_more (base a.radix) a.text.now l.b-index l.value l.invariant.1 c.loop-b-test.true _ digit.0 (omega (arith, more.1, digit.1)))

pub returns : goal.returns
returns c =
    let a = c.args in
    let l = c.loop-b in
    let some : 0 < length a.text.now = let e : false ≡ (length a.text.now == 0) = c.if-is_empty.ensures in grind (arith, nat_tests) in
    all_read (base a.radix) a.text.now l.b-index l.value l.invariant.1 _ c.loop-b-test.false some (omega (arith, l.invariant.0))
