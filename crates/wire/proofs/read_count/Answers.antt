use native.Mathlib.Omega.{arith}
use borrow.Author.Tests.{le-ltb, lt-ltb, le-leb, lt-leb}
use Prim.Native.Nat.{◌+◌, ◌/◌, ◌^◌}
use lib.ListN.{length, get_or}
use lib.Count.{count_trailing_zeros}
use Rattle.rules.specs.Digits.{le_at}
use Rattle.rules.specs.Bytes.{count_at, count_by, least}
use Rattle.wire.proofs.read_count.Goals as goal

pub returns-then-s-at : goal.returns-then-s-at
unfolding count_at
returns-then-s-at c = simp (le-leb _ _ c.if-s-at.true)

pub returns-then-t-gt2 : goal.returns-then-t-gt2
unfolding count_at count_by
returns-then-t-gt2 c =
    let a = c.args in
    simp (lt-leb (length a.s.now) a.at (omega arith), lt-ltb 2 (count_trailing_zeros 8 (get_or a.s.now a.at 0)) (omega arith))

pub returns-then-s-at-2 : goal.returns-then-s-at-2
unfolding count_at count_by
returns-then-s-at-2 c =
    let a = c.args in
    let t = count_trailing_zeros 8 (get_or a.s.now a.at 0) in
    simp (lt-leb (length a.s.now) a.at (omega arith), le-ltb 2 t (omega arith), lt-ltb (length a.s.now) (a.at + t + 1) (omega arith))

pub returns-then-value-lowest : goal.returns-then-value-lowest
unfolding count_at count_by
returns-then-value-lowest c =
    let a = c.args in
    let s = a.s.now in
    let t = count_trailing_zeros 8 (get_or s a.at 0) in
    simp (
      lt-leb (length s) a.at (omega arith),
      le-ltb 2 t (omega arith),
      le-ltb (length s) (a.at + t + 1) (omega arith),
      lt-ltb (le_at (t + 1) s a.at / 2 ^ (t + 1)) (least t) (omega arith),
    )

pub returns-then-value-gt65535 : goal.returns-then-value-gt65535
unfolding count_at count_by
returns-then-value-gt65535 c =
    let a = c.args in
    let s = a.s.now in
    let t = count_trailing_zeros 8 (get_or s a.at 0) in
    let v = le_at (t + 1) s a.at / 2 ^ (t + 1) in
    simp (
      lt-leb (length s) a.at (omega arith),
      le-ltb 2 t (omega arith),
      le-ltb (length s) (a.at + t + 1) (omega arith),
      le-ltb v (least t) (omega arith),
      lt-ltb 65535 v (omega arith),
    )

pub returns : goal.returns
unfolding count_at count_by
returns c =
    let a = c.args in
    let s = a.s.now in
    let t = count_trailing_zeros 8 (get_or s a.at 0) in
    let v = le_at (t + 1) s a.at / 2 ^ (t + 1) in
    simp (
      lt-leb (length s) a.at (omega arith),
      le-ltb 2 t (omega arith),
      le-ltb (length s) (a.at + t + 1) (omega arith),
      le-ltb v (least t) (omega arith),
      le-ltb 65535 v (omega arith),
    ) (cc)
