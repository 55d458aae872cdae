use native.Mathlib.Omega.{arith}
use Rattle.accumulator.specs.Model.{joined_acc}
use Rattle.strict.proofs.Drafts.{slots_joined, joined_fine}
use Rattle.strict.proofs.Draft.join.Goals as goal

pub overflow_add-result : goal.overflow_add-result
unfolding joined_acc
overflow_add-result c = let r = rw (← c.self.view_is) at c.requires in rw (c.push_op-acc.ensures, c.from.ensures) (omega (arith, r.2))

pub invariant_of-result : goal.invariant_of-result
invariant_of-result c =
    let r = rw (← c.self.view_is) at c.requires in
    rw (c.push_op-acc.ensures, c.from.ensures) (joined_fine c.args.code c.args.imm _ c.self.invariant r.0 r.1 r.2)

pub returns : goal.returns
returns c = rw (← c.self.view_is, c.push_op-acc.ensures, c.from.ensures) (slots_joined c.args.code c.args.imm _)
