use mathlib.Core.Path.{refl, sym, ap, ◌∙◌}
use native.Mathlib.Numerals.{add-one}
use native.Mathlib.Omega.{arith}
use lib.ListN.{length, length-set}
use Rattle.rules.specs.Digits.{digits}
use Rattle.rules.specs.Bytes.{op_bytes}
use Rattle.rules.proofs.Digits.{length_le_bytes}
use Rattle.wire.proofs.Laws.{op_plain, op_valued}
use Rattle.wire.proofs.write_op.Goals as goal

pub bounds-out-at : goal.bounds-out-at
unfolding op_bytes
bounds-out-at c = omega arith

pub returns-then-not-has_value : goal.returns-then-not-has_value
returns-then-not-has_value c =
    let a = c.args in
    rw (op_plain a.table.now a.code a.v (sym c.has_value.ensures ∙ c.if-not-has_value.true)) (refl, refl)

pub put-requires : goal.put-requires
unfolding digits
put-requires c =
    let a = c.args in
    simp length-set (omega (arith, ap length (op_valued a.table.now a.code a.v (sym c.has_value.ensures ∙ c.if-not-has_value.false))))

pub shape_of-out : goal.shape_of-out
shape_of-out c =
    let a = c.args in
    c.put.auto.out ∙ length-set a.out.now a.at a.code

pub returns : goal.returns
returns c =
    let a = c.args in
    rw (op_valued a.table.now a.code a.v (sym c.has_value.ensures ∙ c.if-not-has_value.false))
    (rw length_le_bytes (omega arith), c.put.ensures ∙ rw add-one)
