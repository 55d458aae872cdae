use native.Mathlib.Omega.{arith}
use Rattle.comparison.specs.Model.{entries_for}
use Rattle.comparison.proofs.Entries.{adds_both, adds_none}
use Rattle.comparison.proofs.Report.batch.Goals as goal

pub returns-then-apart : goal.returns-then-apart
unfolding entries_for
returns-then-apart c =
    let m = c.note.ensures in
    let n = c.note-2.ensures in
    let o = c.note-3.ensures in
    let p = c.note-4.ensures in
    rw c.if-apart.true
    (adds_both _ _ _ _ _ m.0 (adds_both _ _ _ _ _ n.0 (adds_both _ _ _ _ _ o.0 (adds_both _ _ _ _ _ p.0 c.put.ensures))), omega (arith, m.1, n.1, o.1, p.1, c.put.ensures.count))

pub returns-else-apart : goal.returns-else-apart
unfolding entries_for
returns-else-apart c =
    let m = c.note.ensures in
    let n = c.note-2.ensures in
    let o = c.note-3.ensures in
    let p = c.note-4.ensures in
    rw c.if-apart.false
    (adds_both _ _ _ _ _ m.0 (adds_both _ _ _ _ _ n.0 (adds_both _ _ _ _ _ o.0 (adds_both _ _ _ _ _ p.0 (adds_none _)))), omega (arith, m.1, n.1, o.1, p.1))
