use native.Mathlib.Omega.{arith}
use borrow.Author.Tests.{lt-ltb, le-ltb}
use lib.ListN.{length}
use Rattle.rules.specs.Functions.{count_here}
use Rattle.reader.proofs.Reader.count.Goals as goal

pub returns-then-self-gt-MOST_BYTES : goal.returns-then-self-gt-MOST_BYTES
unfolding count_here
returns-then-self-gt-MOST_BYTES c = simp (lt-ltb _ _ c.if-self-gt-MOST_BYTES.true)

pub returns-then-self : goal.returns-then-self
unfolding count_here
returns-then-self c = let a = c.args.self in rw (le-ltb 1048576 (length a.src.now) (omega arith), lt-ltb _ _ c.if-self.true)

pub returns : goal.returns
unfolding count_here
returns c =
    let a = c.args.self in
    rw (le-ltb 1048576 (length a.src.now) (omega arith), le-ltb (length a.src.now) a.at (omega arith)) c.read_count.ensures
