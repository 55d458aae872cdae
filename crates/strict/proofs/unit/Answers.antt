use Rattle.strict.proofs.Drafts.{unit_is}
use Rattle.strict.proofs.unit.Goals as goal

pub returns : goal.returns
returns c = unit_is _ c.requires
