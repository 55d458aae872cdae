use mathlib.Core.Path.{sym, ◌∙◌}
use native.Mathlib.Omega.{arith}
use Rattle.commitment.proofs.Groups.{batch_lies, full_group, empty_begin, empty_done, empty_skip, empty_held, empty_right, empty_wrong}
use Rattle.commitment.proofs.Batch.empty_zero.Goals as goal
use Rattle.commitment.proofs.Batch.empty_zero.Goals.{then-not-is_empty, else-not-is_empty+then-held-gt0, else-not-is_empty+else-held-gt0+else-number-ne0}

pub returns-then-number-ne0 : goal.returns-then-number-ne0
returns-then-number-ne0 c =
    let l = c.loop-g in
    let k = c.args.self in
    let x = batch_lies k in
    sym (empty_wrong k.block.table.now _ _ _ _ x l.g (omega (arith, c.count-g-end.ensures.0)) _ c.group-group.ensures (c.is_empty.ensures.0 c.if-not-is_empty.false) l.held (omega arith) (λ z. c.if-number-ne0.true (c.number.ensures ∙ z))) ∙ l.invariant ∙ empty_begin k.block.table.now _ _ _ _ x

pub loop-g-preserved : goal.loop-g-preserved
loop-g-preserved c =
    let l = c.loop-g in
    let k = c.args.self in
    let x = batch_lies k in
    let t = k.block.table.now in
    elim c.if-not-is_empty.branch [
      | then-not-is_empty w ↦
          empty_skip t _ _ _ _ x l.g (omega (arith, c.count-g-end.ensures.0)) _ c.group-group.ensures (full_group _ _ c.is_empty.ensures w.if-not-is_empty.true) l.held c.if-not-is_empty.held (w.held-is ∙ w.immediates-held.ensures.count) ∙ l.invariant
      | else-not-is_empty+then-held-gt0 w ↦
          rw w.held-is (empty_held t _ _ _ _ x l.g (omega (arith, c.count-g-end.ensures.0)) _ c.group-group.ensures (c.is_empty.ensures.0 w.if-not-is_empty.false) l.held w.if-held-gt0.true ∙ l.invariant)
      | else-not-is_empty+else-held-gt0+else-number-ne0 w ↦
          rw w.held-is (empty_right t _ _ _ _ x l.g (omega (arith, c.count-g-end.ensures.0)) _ c.group-group.ensures (c.is_empty.ensures.0 w.if-not-is_empty.false) l.held (omega (arith, w.if-held-gt0.false)) (sym w.number.ensures ∙ w.if-number-ne0.false) ∙ l.invariant)
    ]

pub returns : goal.returns
returns c =
    let l = c.loop-g in
    let k = c.args.self in
    let x = batch_lies k in
    sym (empty_done k.block.table.now _ _ _ _ x l.g l.held (omega (arith, c.count-g-end.ensures.0))) ∙ l.invariant ∙ empty_begin k.block.table.now _ _ _ _ x
