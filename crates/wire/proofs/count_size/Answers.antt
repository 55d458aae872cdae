use borrow.Author.Tests.{le-ltb, lt-ltb}
use Rattle.rules.specs.Bytes.{more}
use Rattle.wire.proofs.count_size.Goals as goal

pub returns-then-v-lt128 : goal.returns-then-v-lt128
unfolding more
returns-then-v-lt128 c = simp (lt-ltb _ _ c.if-v-lt128.true)

pub returns-then-v-lt16384 : goal.returns-then-v-lt16384
unfolding more
returns-then-v-lt16384 c = simp (le-ltb _ _ c.if-v-lt128.false, lt-ltb _ _ c.if-v-lt16384.true)

pub returns-else-v-lt16384 : goal.returns-else-v-lt16384
unfolding more
returns-else-v-lt16384 c = simp (le-ltb _ _ c.if-v-lt128.false, le-ltb _ _ c.if-v-lt16384.false)
