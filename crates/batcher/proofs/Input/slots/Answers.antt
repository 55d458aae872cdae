use mathlib.Core.Path.{refl}
use native.Mathlib.Omega.{arith}
use Rattle.batcher.proofs.Join.{fine}
use Rattle.batcher.proofs.Input.slots.Goals as goal

pub returns : goal.returns
returns c =
    let a = c.args in
    (omega arith, record { kind = refl; fine = fine a.self.table.now a.code a.v a.self.whole (omega arith) (omega arith) (rw c.from.ensures at c.if-from-v.false); slot = omega arith; here = omega arith })
