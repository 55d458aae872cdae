use mathlib.Core.Path.{sym, ◌∙◌}
use lib.ListN.{length}
use borrow.Author.Tests.{eq-eqb, eqb-true}
use Rattle.commitment.proofs.Numbers.{no_ops, no_codes}
use Rattle.commitment.proofs.Group.is_empty.Goals as goal

pub returns : goal.returns
returns c =
    let g = c.args.self in
    (λ e. no_ops _ _ (eqb-true (length g.codes.now) 0 (sym c.is_empty.ensures ∙ e)), λ e. c.is_empty.ensures ∙ eq-eqb (length g.codes.now) 0 (no_codes _ _ g.same e))
