use mathlib.Core.Path.{sym, ◌∙◌}
use borrow.Author.Tests.{lt-ltb, le-ltb}
use Rattle.strict.specs.Model.{is_record}
use Rattle.strict.proofs.Walk.held.Goals as goal
use Rattle.strict.proofs.Walk.held.Goals.{else-b-batches-via-then-b-batches+else-eq, else-b-batches-via-else-b-batches}

pub returns-then-eq : goal.returns-then-eq
unfolding is_record
returns-then-eq c =
    let e = rw (c.shape.ensures, c.end.ensures) at (sym c.eq.ensures ∙ c.if-eq.true) in
    rw (c.in_ok-b.was, lt-ltb _ _ (rw c.batches.ensures at c.if-b-batches.true), e)

pub returns-else-b-batches : goal.returns-else-b-batches
unfolding is_record
returns-else-b-batches c =
    elim c.else-b-batches.branch [
      | else-b-batches-via-then-b-batches+else-eq w ↦
          let e = rw (w.shape.ensures, w.end.ensures) at (sym w.eq.ensures ∙ w.if-eq.false) in
          rw (c.in_ok-b.was, lt-ltb _ _ (rw c.batches.ensures at w.if-b-batches.true), e)
      | else-b-batches-via-else-b-batches w ↦ rw (c.in_ok-b.was, le-ltb _ _ (rw c.batches.ensures at w.if-b-batches.false))
    ]
