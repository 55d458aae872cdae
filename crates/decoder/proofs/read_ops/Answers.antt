use mathlib.Core.Path.{◌≡◌, refl, sym, ◌∙◌}
use native.Mathlib.Nat.{sub-zero}
use native.Mathlib.Omega.{arith}
use lib.ListN.{length, take, length-set}
use lib.Seq.{length-take-le}
use Rattle.rules.specs.Operations.{operations}
use Rattle.rules.proofs.Operations.{length_operations, codes_operations, values_operations}
use Rattle.refusal.proofs.Told.{handed}
use Rattle.wire.proofs.Stages.{onto_nil, passed_lost, passed_found}
use Rattle.decoder.proofs.Ops.{turn, stop, done}
use Rattle.decoder.proofs.read_ops.Goals as goal

pub loop-i-init : goal.loop-i-init
unfolding operations
loop-i-init c = (refl, refl, rw sub-zero (onto_nil _))

pub returns-in_err-op : goal.returns-in_err-op
returns-in_err-op c =
    let l = c.loop-i in
    passed_lost (sym l.invariant.2 ∙ stop _ _ _ _ l.i _ _ _ (omega arith) (sym c.in_err-op.ensures)) (handed _ _ c.from_residual.ensures.1)

pub loop-i-preserved : goal.loop-i-preserved
loop-i-preserved c =
    let a = c.args in
    let l = c.loop-i in
    let o = c.in_ok-op.op in (
      simp length-set l.invariant.0,
      simp length-set l.invariant.1,
      turn a.table.now a.s.now a.n l.next l.i l.out_codes l.out_values o.item.code o.item.value o.next (omega arith) (omega arith) (omega arith) (sym c.in_ok-op.ensures) ∙ l.invariant.2,
    )

pub returns : goal.returns
returns c =
    let l = c.loop-i in
    let cs = take l.i l.out_codes in
    let vs = take l.i l.out_values in
    let p : length cs ≡ l.i = length-take-le l.i l.out_codes (omega arith) in
    let q : length cs ≡ length vs = p ∙ sym (length-take-le l.i l.out_values (omega arith)) in
    let n : length (operations cs vs) ≡ l.i = length_operations cs vs q ∙ p in
    passed_found (sym l.invariant.2 ∙ done _ _ _ _ l.i _ (omega arith)) refl (rw (n, codes_operations cs vs q), rw (n, values_operations cs vs q))
