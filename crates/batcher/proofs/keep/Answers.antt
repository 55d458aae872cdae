use borrow.Author.Tests.{le-ltb, lt-ltb}
use Rattle.accumulator.specs.Good.{record_groups}
use Rattle.batcher.specs.Model.{kept_run}
use Rattle.batcher.proofs.keep.Goals as goal

pub returns-then-next-lt-RECORD_GROUPS : goal.returns-then-next-lt-RECORD_GROUPS
unfolding kept_run
returns-then-next-lt-RECORD_GROUPS c = rw (lt-ltb _ record_groups c.if-next-lt-RECORD_GROUPS.true) c.put_number.ensures

pub returns-else-next-lt-RECORD_GROUPS : goal.returns-else-next-lt-RECORD_GROUPS
unfolding kept_run
returns-else-next-lt-RECORD_GROUPS c = rw (le-ltb _ record_groups c.if-next-lt-RECORD_GROUPS.false)
