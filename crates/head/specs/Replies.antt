-- What `head` answers, said of the definitions' answer.
use Rattle.std.specs.Prelude.{length}
use Rattle.rules.specs.Answer.{Answer, good, refused, Read}
use Rattle.rules.specs.Block.{Head}
use Rattle.head.specs.declared.Headed.{Headed}

abbrev pub head_of : Read Head → Answer Headed
head_of (good i) = good (record { operations = length i.item.ops; batches = i.item.batches; next = i.next })
head_of (refused n p) = refused n p
