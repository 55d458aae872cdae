use mathlib.Core.Path.{refl, sym, ◌∙◌}
use native.Mathlib.Omega.{arith}
use Rattle.rules.specs.Checks.{commitment_faults}
use Rattle.operation.proofs.Scan as scan
use Rattle.checks.proofs.Batches.{came_first, came_last, came_lies, came_next}
use Rattle.commitment.proofs.Block.is_right.Goals as goal

pub loop-b-init : goal.loop-b-init
loop-b-init c = record { came = came_first _ _ _ _ (record { width = 8; room = omega arith; passed = c.args.self.structure }); scan = refl }

pub invariant_of-batch : goal.invariant_of-batch
invariant_of-batch c =
    let l = c.loop-b in
    let x = came_lies _ _ _ _ _ _ _ l.invariant.came (omega arith) in
    record { within = omega (arith, l.invariant.came.all); inside = x.inside }

pub loop-b-preserved : goal.loop-b-preserved
loop-b-preserved c =
    let l = c.loop-b in
    let i = l.invariant in
    let r = c.is_right.ensures c.if-not-is_right.false in
    record { came = came_next _ _ _ _ _ _ _ i.came (omega arith) _ c.len-from.ensures r.fault; scan = rw c.len-from.ensures r.scan ∙ i.scan }

pub returns : goal.returns
unfolding commitment_faults
returns c =
    let l = c.loop-b in
    let e = came_last _ _ _ _ _ _ _ l.invariant.came (omega arith) in
    λ h. record { admissible = sym l.invariant.scan ∙ scan.done _ _ _ l.from (omega (arith, e.0)); commitment = sym e.1 }
