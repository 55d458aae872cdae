use mathlib.Core.Path.{◌≡◌, sym, ◌∙◌}
use native.Mathlib.Omega.{arith}
use Rattle.rules.specs.Digits.{digits}
use Rattle.rules.specs.Bytes.{up_to}
use Rattle.decoder.proofs.Sizes.{turn, stop, done}
use Rattle.decoder.proofs.nibbles_right.Goals as goal

pub returns-then-not-deltas_right : goal.returns-then-not-deltas_right
returns-then-not-deltas_right c =
    let a = c.args in
    let l = c.loop-b in
    let w : up_to 9 (digits 16 8 c.le.result) ≡ _ = sym c.deltas_right.ensures ∙ c.if-not-deltas_right.true in
    sym (stop a.s.now a.at a.k l.b (omega arith) (rw c.le.ensures.0 at w)) ∙ l.invariant

pub loop-b-preserved : goal.loop-b-preserved
loop-b-preserved c =
    let a = c.args in
    let l = c.loop-b in
    let w : up_to 9 (digits 16 8 c.le.result) ≡ _ = sym c.deltas_right.ensures ∙ c.if-not-deltas_right.false in
    turn a.s.now a.at a.k l.b (omega arith) (rw c.le.ensures.0 at w) ∙ l.invariant

pub returns : goal.returns
returns c =
    let a = c.args in
    let l = c.loop-b in
    sym (done a.s.now a.at a.k l.b (omega arith)) ∙ l.invariant
