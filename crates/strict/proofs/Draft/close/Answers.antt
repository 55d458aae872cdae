use Rattle.strict.specs.Draft.{closed_draft}
use Rattle.strict.proofs.Drafts.{closed_fine}
use Rattle.strict.proofs.Draft.close.Goals as goal

pub invariant_of-result : goal.invariant_of-result
unfolding closed_draft
invariant_of-result c = rw (c.closed-shape.ensures, ← c.self.view_is, c.turn.ensures) (closed_fine _ c.self.invariant (rw (← c.self.view_is) at c.requires))

pub returns : goal.returns
unfolding closed_draft
returns c = rw (c.closed-shape.ensures, ← c.self.view_is, c.turn.ensures)
