use mathlib.Core.Path.{sym, ◌∙◌}
use native.Mathlib.Omega.{arith}
use Rattle.unpacker.proofs.Groups as G
use Rattle.unpacker.proofs.ops.Ops.place_immediates.Goals as goal

pub loop-i-preserved-then-not-has_immediate : goal.loop-i-preserved-then-not-has_immediate
loop-i-preserved-then-not-has_immediate c =
    let l = c.loop-i in
    G.place_plain l.invariant (G.due_plain _ _ _ l.i (omega arith) (omega arith) (sym c.has_immediate.ensures ∙ c.if-not-has_immediate.true))

pub returns-then-self-next : goal.returns-then-self-next
returns-then-self-next c =
    let l = c.loop-i in
    G.place_8 l.invariant (G.due_placed _ _ _ l.i (omega arith) (omega arith) (sym c.has_immediate.ensures ∙ c.if-not-has_immediate.false)) (omega arith)

pub returns-then-left-ne0 : goal.returns-then-left-ne0
returns-then-left-ne0 c =
    let l = c.loop-i in
    G.place_9 l.invariant (G.due_placed _ _ _ l.i (omega arith) (omega arith) (sym c.has_immediate.ensures ∙ c.if-not-has_immediate.false)) (omega arith) c.if-left-ne0.true

pub loop-i-preserved : goal.loop-i-preserved
loop-i-preserved c =
    let l = c.loop-i in
    G.place_turn l.invariant (G.due_placed _ _ _ l.i (omega arith) (omega arith) (sym c.has_immediate.ensures ∙ c.if-not-has_immediate.false)) (omega arith) (omega arith) c.if-left-ne0.false

pub returns : goal.returns
returns c =
    let l = c.loop-i in
    G.place_plain l.invariant (G.due_none _ _ _ l.i (omega arith))
