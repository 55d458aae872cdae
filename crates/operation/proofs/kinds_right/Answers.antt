use mathlib.Core.Path.{◌∙◌}
use native.Mathlib.Omega.{arith}
use Rattle.operation.proofs.Scan.{kind_turn, kinds_end}
use Rattle.operation.proofs.kinds_right.Goals as goal

pub loop-kind-preserved : goal.loop-kind-preserved
loop-kind-preserved c =
    let l = c.loop-kind in
    kind_turn c.args.table.now l.kind-index l.ok (omega arith) ∙ l.invariant

pub returns : goal.returns
returns c =
    let l = c.loop-kind in
    kinds_end c.args.table.now l.kind-index l.ok (omega arith) ∙ l.invariant
