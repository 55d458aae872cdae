use native.Mathlib.Nat.{sub-zero}
use native.Mathlib.Omega.{arith}
use Rattle.comparison.proofs.Entries.{ahead_all}
use Rattle.comparison.proofs.Blocks.{along_first, few, along_lies, along_room, along_next, near, common_turn, common_end}
use Rattle.comparison.proofs.Report.batches.Goals as goal

pub loop-b-init : goal.loop-b-init
loop-b-init c =
    let a = c.args in
    (along_first _ _ _ _ a.first.now.taken c.requires.1, along_first _ _ _ _ a.second.now.taken c.requires.2, omega (arith, c.requires.0), rw (sub-zero a.k) (ahead_all _ _))

pub batch_apart-requires : goal.batch_apart-requires
batch_apart-requires c = let v = c.loop-b.invariant in (along_lies _ _ _ _ _ _ v.0 c.loop-b-test.true, along_lies _ _ _ _ _ _ v.1 c.loop-b-test.true)

pub batch-requires : goal.batch-requires
batch-requires c =
    let v = c.loop-b.invariant in
    let k = few _ _ _ _ _ _ v.0 in
    (omega (arith, v.2), omega arith, near _ _ _ _ _ (along_lies _ _ _ _ _ _ v.0 c.loop-b-test.true) _ _ c.batch_apart.ensures)

pub overflow_add-from : goal.overflow_add-from
overflow_add-from c = omega (arith, along_room _ _ _ _ _ _ c.loop-b.invariant.0 c.loop-b-test.true _ c.len-from.ensures.0)

pub overflow_add-at : goal.overflow_add-at
overflow_add-at c = omega (arith, along_room _ _ _ _ _ _ c.loop-b.invariant.1 c.loop-b-test.true _ c.len-at.ensures.0)

pub loop-b-preserved : goal.loop-b-preserved
loop-b-preserved c =
    let l = c.loop-b in
    let v = l.invariant in
    let h = c.loop-b-test.true in (
      along_next _ _ _ _ _ _ v.0 h _ c.len-from.ensures.0,
      along_next _ _ _ _ _ _ v.1 h _ c.len-at.ensures.0,
      omega (arith, v.2, c.batch.ensures.1),
      rw (c.len-from.ensures.0, c.len-at.ensures.0) (common_turn _ _ _ _ _ l.b l.from l.at _ _ h v.3 (rw c.batch_apart.ensures at c.batch.ensures.0)),
    )

pub returns : goal.returns
returns c = let v = c.loop-b.invariant in (common_end _ _ _ _ _ c.loop-b.b c.loop-b.from c.loop-b.at _ c.loop-b-test.false v.3, omega (arith, v.2))
