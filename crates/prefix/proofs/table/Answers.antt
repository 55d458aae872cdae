use mathlib.Core.Path.{sym}
use native.Mathlib.Omega.{arith}
use Rattle.checks.proofs.Walk.{few_records}
use Rattle.checks.proofs.Passed.{checked, padding_good, all_fit}
use Rattle.prefix.proofs.Entries.{refused_way, no_room, made}
use Rattle.prefix.proofs.table.Goals as goal

pub returns-in-Err : goal.returns-in-Err
returns-in-Err c = let a = c.args in refused_way a.which _ _ a.out.now _ _ c.in-Err.ensures c.zero_after.ensures

pub fill-entries-requires : goal.fill-entries-requires
fill-entries-requires c =
    let k = checked _ _ _ _ (padding_good _ _ (sym c.in_default.ensures)) in
    (few_records _ _ _ k.0, all_fit _ _ _ _ (omega arith) k.1)

pub returns-then-out-entries : goal.returns-then-out-entries
returns-then-out-entries c =
    let a = c.args in
    no_room a.which _ _ a.out.now (sym c.in_default.ensures) _ _ c.fill-entries.ensures _ (omega (arith, c.if-out-entries.true)) c.fill-entries.auto.out c.zero_after-then-out-entries.ensures

pub returns : goal.returns
returns c =
    let a = c.args in
    made a.which _ _ a.out.now (sym c.in_default.ensures) _ _ c.fill-entries.ensures _ (omega (arith, c.if-out-entries.false)) c.fill-entries.auto.out c.zero_after-2.ensures
