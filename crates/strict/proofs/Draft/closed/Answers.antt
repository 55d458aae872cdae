use native.Mathlib.Omega.{arith}
use Rattle.strict.specs.Draft.{closed_draft}
use Rattle.strict.proofs.Drafts.{closed_fits}
use Rattle.strict.proofs.Draft.closed.Goals as goal

pub overflow_mul-result : goal.overflow_mul-result
overflow_mul-result c =
    let f = closed_fits _ c.self.invariant (omega arith) in
    rw (c.unit-unit.ensures, c.from-pad.ensures, c.padding.ensures.0) (omega (arith, f.0))

pub overflow_add-result-2 : goal.overflow_add-result-2
overflow_add-result-2 c =
    let f = closed_fits _ c.self.invariant (omega arith) in
    rw (c.unit-unit.ensures, c.from-pad.ensures, c.padding.ensures.0) (omega (arith, f.0))

pub overflow_add-result-3 : goal.overflow_add-result-3
overflow_add-result-3 c =
    let f = closed_fits _ c.self.invariant (omega arith) in
    rw (c.unit-unit.ensures, c.from-pad.ensures, c.padding.ensures.0) (omega (arith, f.1))

pub returns : goal.returns
unfolding closed_draft
returns c = rw (← c.self.view_is, c.unit-unit.ensures, c.from-pad.ensures, c.padding.ensures.0)
