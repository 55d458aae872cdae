use native.Mathlib.Omega.{arith}
use Rattle.comparison.proofs.Entries.{side_stored, missing_turn, missing_end}
use Rattle.comparison.proofs.Report.missing.Goals as goal

pub loop-b-preserved : goal.loop-b-preserved
loop-b-preserved c =
    let v = c.loop-b.invariant in
    (omega (arith, v.0, c.put.ensures.count), missing_turn c.args.to _ _ _ c.loop-b.b c.loop-b.self _ c.loop-b-test.true v.1 (rw (side_stored c.args.side) at c.put.ensures))

pub returns : goal.returns
returns c = let v = c.loop-b.invariant in (missing_end c.args.to _ _ _ c.loop-b.b _ c.loop-b-test.false v.1, omega arith)
