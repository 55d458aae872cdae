use Rattle.text.proofs.Parts.{rest_of}
use Rattle.text.proofs.without_blanks.Goals as goal

pub returns : goal.returns
returns c = rest_of c.args.s.now c.place.result
