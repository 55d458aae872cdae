use mathlib.Core.Path.{◌≡◌, sym, ◌∙◌}
use Rattle.strict.specs.Draft.{ready_draft}
use Rattle.strict.proofs.Drafts.{ready_joins}
use Rattle.strict.proofs.Draft.advance.Goals as goal

pub returns-then-full : goal.returns-then-full
unfolding ready_draft
returns-then-full c =
    let v : c.close.result ≡ ready_draft c.args.imm c.args.self = c.close.ensures ∙ rw (← c.self.view_is, sym c.full.ensures ∙ c.if-full.true) in
    record { value = v; joins = rw (v, ← c.self.view_is) (ready_joins c.args.imm _ c.self.invariant (rw (← c.self.view_is) at c.requires)) }

pub returns-else-full : goal.returns-else-full
unfolding ready_draft
returns-else-full c =
    let v : c.args.self ≡ ready_draft c.args.imm c.args.self = rw (← c.self.view_is, sym c.full.ensures ∙ c.if-full.false) in
    record { value = v; joins = rw (v, ← c.self.view_is) (ready_joins c.args.imm _ c.self.invariant (rw (← c.self.view_is) at c.requires)) }
