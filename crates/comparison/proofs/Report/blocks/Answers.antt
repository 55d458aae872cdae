use native.Mathlib.Omega.{arith}
use Rattle.comparison.proofs.Entries.{adds_both}
use Rattle.comparison.proofs.Ways.{blocks_are, adds_as, whole_records}
use Rattle.comparison.proofs.Report.blocks.Goals as goal

pub batches-requires : goal.batches-requires
batches-requires c =
    let m = c.min-both.ensures in
    (c.requires, whole_records _ _ _ _ _ c.totals-x.ensures.0 (omega arith), whole_records _ _ _ _ _ c.totals-y.ensures.0 (omega arith))

pub returns : goal.returns
returns c =
    let x = c.totals-x.ensures in
    let y = c.totals-y.ensures in
    let m = c.min-both.ensures in
    let p = c.batches.ensures in
    let q = c.missing.ensures in
    let r = c.missing-2.ensures in
    let t = c.totals.ensures in (
      adds_as _ _ _ _ (blocks_are _ _ _ _ _ _ _ _ _ x.0 y.0 m) (adds_both _ _ _ _ _ (adds_both _ _ _ _ _ p.0 (adds_both _ _ _ _ _ q.0 r.0)) t.0),
      omega (arith, p.1, q.1, r.1, t.1, x.1.batches, y.1.batches),
    )
