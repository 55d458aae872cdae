use mathlib.Core.Path.{sym, ap, ◌∙◌}
use mathlib.Core.List.{List}
use Prim.Native.Nat.{ℕ}
use native.Mathlib.Nat.{sub-zero}
use native.Mathlib.Omega.{arith}
use Rattle.rules.specs.Record.{record_at}
use Rattle.rules.specs.Checks.{ninth}
use Rattle.rules.specs.Strict.{unmarked}
use Rattle.prefix.specs.Tables.{marks_at}
use Rattle.strict.specs.Model.{codes_part, fed}
use Rattle.strict.specs.Walk.{batches_in, fed_in}
use Rattle.strict.proofs.Records.{laid_at}
use Rattle.strict.proofs.Works.{fed_append, fed_raw}
use Rattle.strict.proofs.Batches.{part_length, unmarked_few, behind, behind_turn, behind_end, sum_turn, sum_end}
use Rattle.strict.proofs.Walk.add_batches.Goals as goal

pub add_batch-w-requires : goal.add_batch-w-requires
add_batch-w-requires c =
    let l = c.loop-b in
    let b = c.args.self.now in
    let h = rw c.batches-b-end.ensures at c.loop-b-test.true in
    let n = sum_turn b.records.now (batches_in b) b.codes.now l.b l.at h in
    (h, omega (arith, l.invariant.0), l.invariant.1)

pub loop-b-preserved : goal.loop-b-preserved
loop-b-preserved c =
    let l = c.loop-b in
    let v = l.invariant in
    let b = c.args.self.now in
    let h = rw c.batches-b-end.ensures at c.loop-b-test.true in
    let r = record_at b.records.now l.b in
    let n = sum_turn b.records.now (batches_in b) b.codes.now l.b l.at h in
    let cs = codes_part (ninth r) b.codes.now l.at in
    let ms = marks_at r 0 in
    let m = fed_raw 8 b.table.now b.records.now (batches_in b) (unmarked ms cs) l.w in
    let f = behind_turn b.records.now (batches_in b) b.codes.now l.b l.at h (laid_at _ _ _ b.judged.runs h) (omega (arith, v.0)) in
    rw (c.add_batch-w.ensures, c.start-at.ensures.0) (
      omega (arith, v.0),
      omega (arith, m, v.1, unmarked_few ms cs, part_length (ninth r) b.codes.now l.at (omega (arith, v.0))),
      sym (fed_append 8 b.table.now b.records.now (batches_in b) _ _ l.w) ∙ (ap (λ (q : List ℕ). fed_in b q l.w) (sym f) ∙ v.2),
    )

pub returns : goal.returns
unfolding fed behind
returns c =
    let l = c.loop-b in
    let b = c.args.self.now in
    let h = rw c.batches-b-end.ensures at c.loop-b-test.false in
    let z = sum_end b.records.now (batches_in b) b.codes.now l.b l.at h in
    let e = behind_end b.records.now (batches_in b) b.codes.now l.b l.at h (omega (arith, l.invariant.0)) in
    rw e at l.invariant.2 ∙ rw sub-zero
