use Rattle.text.proofs.Parts.{part_of}
use Rattle.text.proofs.words.Goals as goal

pub returns : goal.returns
returns c = part_of c.args.line.now c.without_blanks.result.now _ _ c.without_blanks.ensures
