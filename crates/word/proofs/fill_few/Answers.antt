use mathlib.Core.Path.{◌∙◌}
use native.Mathlib.Omega.{arith}
use Rattle.word.proofs.Copies.{ends}
use Rattle.word.proofs.fill_few.Goals as goal

pub returns-then-n-ge4 : goal.returns-then-n-ge4
returns-then-n-ge4 c =
    let a = c.args in
    c.put-then-n-ge4.ensures ∙ rw c.put.ensures (ends a.out.now a.at a.v 4 a.n _ (omega arith) (omega arith) (omega arith) (omega arith))

pub returns-then-n-ge2 : goal.returns-then-n-ge2
returns-then-n-ge2 c =
    let a = c.args in
    c.put-then-n-ge2-2.ensures ∙ rw c.put-then-n-ge2.ensures (ends a.out.now a.at a.v 2 a.n _ (omega arith) (omega arith) (omega arith) (omega arith))
