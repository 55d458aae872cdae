use Rattle.console.proofs.Texts.{pushed}
use Rattle.console.proofs.Text.push.Goals as goal

pub returns : goal.returns
returns g c = pushed c.self.inside.bytes c.args.text.now c.copy_from_slice.new.self c.args.self.now g.row.N c.self.inside.filled c.left.result c.min-n.result c.self.view_is c.self.invariant c.self.told c.left.ensures c.min-n.ensures c.copy_from_slice.ensures.after
