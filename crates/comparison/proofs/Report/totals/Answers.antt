use native.Mathlib.Omega.{arith}
use Rattle.comparison.specs.Model.{totals_for}
use Rattle.comparison.proofs.Entries.{adds_both}
use Rattle.comparison.proofs.Report.totals.Goals as goal

pub returns : goal.returns
unfolding totals_for
returns c = (
  adds_both _ _ _ _ _ c.total.ensures.0
      (adds_both _ _ _ _ _ c.total-2.ensures.0
      (adds_both _ _ _ _ _ c.total-3.ensures.0
      c.total-4.ensures.0)),
  omega (arith, c.total.ensures.1, c.total-2.ensures.1, c.total-3.ensures.1, c.total-4.ensures.1),
)
