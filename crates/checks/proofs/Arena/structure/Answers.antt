use mathlib.Core.Path.{sym, ◌∙◌}
use native.Mathlib.Omega.{arith}
use Rattle.checks.proofs.Walk.{equal_lengths}
use Rattle.checks.proofs.Arena.structure.Goals as goal

pub structure_fault-requires : goal.structure_fault-requires
structure_fault-requires c =
    let a = c.args.self in
    (omega arith, equal_lengths a.codes.now a.values.now a.records.now (sym c.within.ensures ∙ c.if-not-within.false))
