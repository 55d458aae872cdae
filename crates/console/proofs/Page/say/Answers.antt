use mathlib.Core.Path.{ap, ◌∙◌}
use Rattle.console.proofs.Texts.{said_alone, said_after}
use Rattle.console.specs.declared.Page.{Page}
use Rattle.console.proofs.Page.say.Goals.{then-left-text+in_ok-flush, else-left-text}
use Rattle.console.proofs.Page.say.Goals as goal

pub returns-clause-said : goal.returns-clause-said
returns-clause-said c = elim c.if-left-text.branch [
  | then-left-text+in_ok-flush w ↦ said_alone c.args.self.now.text c.args.text.now c.if-left-text.self.text c.push.new.self c.left.result c.left.ensures w.if-left-text.true (ap (λ (p : Page). p.text) w.self-is ∙ w.in_ok-flush.ensures.told.0) c.push.ensures
  | else-left-text w ↦ said_after c.args.self.now.text c.args.text.now c.if-left-text.self.text c.push.new.self c.left.result c.left.ensures w.if-left-text.false (ap (λ (p : Page). p.text) w.self-is) c.push.ensures
]
