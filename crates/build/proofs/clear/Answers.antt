use Rattle.rules.specs.Operations.{codes, values}
use Rattle.rules.specs.Record.{no_block}
use Rattle.rules.specs.Functions.{arena, filled}
use Rattle.rules.specs.Lists.{in_row}
use Rattle.build.proofs.clear.Goals as goal

pub returns : goal.returns
unfolding filled no_block codes values in_row
returns c = λ j. arena (c.clear_after.ensures.codes j) (c.clear_after.ensures.values j) (c.clear_after.ensures.records j)
