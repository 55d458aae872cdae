use mathlib.Core.Path.{◌≡◌}
use native.Mathlib.Omega.{arith}
use borrow.Author.Tests.{le-ltb, lt-ltb, le-leb, lt-leb, eq-eqb}
use Prim.Native.Nat.{◌+◌, ◌≤◌}
use lib.ListN.{length, get_or}
use Rattle.rules.specs.Digits.{le_at}
use Rattle.rules.specs.Operations.{assigned, valued, field}
use Rattle.rules.proofs.Operations.{kind_at, op_guards}
use Rattle.operation.proofs.Faults.{numbered, valued_named}
use Rattle.wire.proofs.Laws.{assigned_here, valued_here}
use Rattle.wire.proofs.read_op.Goals as goal

pub returns-then-s-at : goal.returns-then-s-at
returns-then-s-at c =
    let a = c.args in
    rw (op_guards a.table.now a.s.now a.at a.i) (simp (le-leb _ _ c.if-s-at.true))

pub returns-then-code-ge128 : goal.returns-then-code-ge128
unfolding assigned
returns-then-code-ge128 c =
    let a = c.args in
    rw (op_guards a.table.now a.s.now a.at a.i)
    (simp (lt-leb (length a.s.now) a.at (omega arith), le-ltb (get_or a.s.now a.at 0) 128 (omega arith)))

pub returns-in-Unassigned : goal.returns-in-Unassigned
unfolding assigned
returns-in-Unassigned c =
    let a = c.args in
    let x = get_or a.s.now a.at 0 in
    let k : 3 ≤ get_or a.table.now x 0 = numbered _ _ c.in-Unassigned.ensures in
    rw (op_guards a.table.now a.s.now a.at a.i)
    (simp (lt-leb (length a.s.now) a.at (omega arith), lt-ltb x 128 (omega arith), kind_at a.table.now x (omega arith), le-ltb (get_or a.table.now x 0) 3 (omega arith)))

pub returns-in-Plain : goal.returns-in-Plain
unfolding valued
returns-in-Plain c =
    let a = c.args in
    let k : get_or a.table.now (get_or a.s.now a.at 0) 0 ≡ 0 = numbered _ _ c.in-Plain.ensures in
    rw (assigned_here a.table.now a.s.now a.at a.i (omega arith) (omega arith) (omega arith) (omega arith))
    (simp (kind_at a.table.now (get_or a.s.now a.at 0) (omega arith), eq-eqb (get_or a.table.now (get_or a.s.now a.at 0) 0) 0 (omega arith)))

pub returns-then-s-at-lt9 : goal.returns-then-s-at-lt9
returns-then-s-at-lt9 c =
    let a = c.args in
    let k = valued_named _ _ c.from.ensures c.in-Placed.is in
    rw (valued_here a.table.now a.s.now a.at a.i (omega arith) (omega arith) (omega arith) k.0 k.1) (simp (lt-ltb (length a.s.now) (a.at + 9) (omega arith)))

pub returns-then-value-ge-FIELD : goal.returns-then-value-ge-FIELD
returns-then-value-ge-FIELD c =
    let a = c.args in
    let k = valued_named _ _ c.from.ensures c.in-Placed.is in
    rw (valued_here a.table.now a.s.now a.at a.i (omega arith) (omega arith) (omega arith) k.0 k.1) (simp (le-ltb (length a.s.now) (a.at + 9) (omega arith), le-ltb (le_at 8 a.s.now (a.at + 1)) field (omega arith)))

pub returns : goal.returns
returns c =
    let a = c.args in
    let k = valued_named _ _ c.from.ensures c.in-Placed.is in
    rw (valued_here a.table.now a.s.now a.at a.i (omega arith) (omega arith) (omega arith) k.0 k.1) (simp (le-ltb (length a.s.now) (a.at + 9) (omega arith), lt-ltb (le_at 8 a.s.now (a.at + 1)) field (omega arith)) (cc))
