use native.Mathlib.Omega.{arith}
use borrow.Author.Tests.{le-ltb, lt-ltb}
use Prim.Native.Nat.{◌+◌, ◌-◌, ◌/◌}
use lib.ListN.{length}
use Rattle.rules.specs.Digits.{le_at}
use Rattle.rules.specs.Bytes.{batch_count_at}
use Rattle.wire.proofs.read_batch_count.Goals as goal

pub returns-then-s-at : goal.returns-then-s-at
unfolding batch_count_at
returns-then-s-at c = let a = c.args in simp (lt-ltb (length a.s.now) (a.at + 4) (omega arith))

pub returns-then-room-value : goal.returns-then-room-value
unfolding batch_count_at
returns-then-room-value c =
    let a = c.args in
    simp (le-ltb (length a.s.now) (a.at + 4) (omega arith), lt-ltb ((length a.s.now - (a.at + 4)) / 5) (le_at 4 a.s.now a.at) (omega arith))

pub returns-then-value-gt16384 : goal.returns-then-value-gt16384
unfolding batch_count_at
returns-then-value-gt16384 c =
    let a = c.args in
    simp (
      le-ltb (length a.s.now) (a.at + 4) (omega arith),
      le-ltb ((length a.s.now - (a.at + 4)) / 5) (le_at 4 a.s.now a.at) (omega arith),
      lt-ltb 16384 (le_at 4 a.s.now a.at) (omega arith),
    )

pub returns : goal.returns
unfolding batch_count_at
returns c =
    let a = c.args in
    simp (
      le-ltb (length a.s.now) (a.at + 4) (omega arith),
      le-ltb ((length a.s.now - (a.at + 4)) / 5) (le_at 4 a.s.now a.at) (omega arith),
      le-ltb 16384 (le_at 4 a.s.now a.at) (omega arith),
    ) (cc)
