use mathlib.Core.Path.{◌∙◌, sym}
use native.Mathlib.Omega.{arith}
use Rattle.word.proofs.Copies.{fill_init, fill_turn, fill_end}
use Rattle.word.proofs.fill.Goals as goal

pub loop-i-init : goal.loop-i-init
loop-i-init g c = let a = c.args in fill_init a.out.now a.at a.n a.v

pub loop-i-preserved : goal.loop-i-preserved
loop-i-preserved g c =
    let l = c.loop-i in
    fill_turn l.out l.i _ c.args.v (omega (arith, c.min-i-end.ensures)) ∙ l.invariant

pub returns : goal.returns
returns g c =
    let l = c.loop-i in
    sym (fill_end l.out l.i _ c.args.v (omega (arith, c.min-i-end.ensures))) ∙ l.invariant
