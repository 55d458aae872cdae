use mathlib.Core.Path.{sym, ◌∙◌}
use native.Mathlib.Omega.{arith}
use Rattle.commitment.proofs.Groups.{batch_lies, full_group}
use Rattle.commitment.proofs.Owed.{gone_first, gone_held, gone_free, gone_full, gone_all}
use Rattle.commitment.proofs.Batch.is_right.Goals as goal
use Rattle.commitment.proofs.Batch.is_right.Goals.{else-held-g-via-then-held-g+else-number-ne0, else-held-g-via-else-held-g}

pub loop-g-init : goal.loop-g-init
loop-g-init c = record { held = omega arith; gone = gone_first _ _ _ _ _ (batch_lies c.args.self) }

pub loop-g-preserved-then-is_empty : goal.loop-g-preserved-then-is_empty
loop-g-preserved-then-is_empty c =
    let l = c.loop-g in
    let i = l.invariant in
    let x = batch_lies c.args.self in
    let e = c.is_empty.ensures.0 c.if-is_empty.true in
    record {
      held = i.held;
      gone =
          elim c.else-held-g.branch [
            | else-held-g-via-then-held-g+else-number-ne0 w ↦
                gone_free _ _ _ _ _ x l.held l.g i.gone (omega (arith, c.count-count.ensures.0)) _ c.group-group.ensures e w.if-held-g.true (sym c.number-number.ensures ∙ w.if-number-ne0.false)
            | else-held-g-via-else-held-g w ↦ gone_held _ _ _ _ _ x l.held l.g i.gone (omega (arith, c.count-count.ensures.0)) _ c.group-group.ensures e w.if-held-g.false
          ];
    }

pub loop-g-preserved : goal.loop-g-preserved
loop-g-preserved c =
    let l = c.loop-g in
    let i = l.invariant in
    let w = c.in-Some.walked in
    record {
      held = c.if-count-walked.false;
      gone =
          gone_full _ _ _ _ _ (batch_lies c.args.self) l.held l.g i.gone (omega (arith, c.count-count.ensures.0)) _ c.group-group.ensures c.args.self.block.known (full_group _ _ c.is_empty.ensures c.if-is_empty.false) c.if-g-held.false w.next
          c.in-Some.ensures.next (omega (arith, c.count-count.ensures, c.if-count-walked.false)) (sym c.number-number.ensures ∙ sym c.if-walked-number.false ∙ c.in-Some.ensures.number);
    }

pub returns : goal.returns
returns c =
    let l = c.loop-g in
    λ e. gone_all _ c.args.self l.held l.g (omega (arith, c.count-count.ensures.0)) (omega (arith, l.invariant.held)) l.invariant.gone
