use mathlib.Core.Path.{◌≡◌, sym, ap, ◌∙◌}
use mathlib.Core.List.{List}
use Prim.Native.Nat.{ℕ, ◌+◌, ◌-◌, ◌≤◌}
use native.Mathlib.Omega.{arith}
use mathlib.Core.Logic.{inl, inr}
use lib.ListN.{length, get_or, drop}
use Rattle.rules.specs.Digits.{number}
use Rattle.rules.specs.Record.{record_at}
use Rattle.op_batch.proofs.Right.{below_ninth, rise, flags_turn}
use Rattle.strict.specs.Model.{codes_part}
use Rattle.strict.specs.Walk.{batches_in, fed_in}
use Rattle.strict.proofs.Records.{laid_at}
use Rattle.strict.proofs.Works.{fed_append, fed_raw}
use Rattle.strict.proofs.Batches.{part_length, goes_on, ends, rest, none_ahead, first}
use Rattle.strict.proofs.Walk.add_batch.Goals as goal
use Rattle.strict.proofs.Walk.add_batch.Goals.{then-flag-eq1+then-start-end, else-flag-eq1, else-flag-eq1-via-then-flag-eq1+else-start-end, else-flag-eq1-via-else-flag-eq1, else-loop-g-test, then-loop-g-test+then-left-eq0}

pub add_ops-w-requires : goal.add_ops-w-requires
add_ops-w-requires c =
    let v = c.loop-g.invariant in
    let x = laid_at _ _ _ c.args.self.now.judged.runs c.requires.0 in
    let up = below_ninth _ _ x.sound x.starts (c.loop-g.g + 1) (omega arith) in
    (omega (arith, v.0, c.start-start.ensures.0, c.start-end.ensures.0), omega (arith, up, c.start-end.ensures.0, c.requires.1), v.1)

pub loop-g-preserved : goal.loop-g-preserved
loop-g-preserved c =
    let v = c.loop-g.invariant in
    let g = c.loop-g.g in
    let from = c.loop-g.from in
    let a = c.args in
    let b = a.self.now in
    let r = record_at b.records.now a.b in
    let x = laid_at _ _ _ b.judged.runs c.requires.0 in
    let t = flags_turn _ _ x.sound x.flags g c.loop-g.left v.2 c.loop-g-test.true in
    let up = (rise _ _ x.sound x.starts g c.loop-g-test.true).0 in
    let i = c.start-start.ensures.0 in
    let e = c.start-end.ensures.0 in
    elim c.if-flag-eq1.branch [
      | then-flag-eq1+then-start-end w ↦
          let n = a.at + get_or r.starts (g + 1) 0 - 1 - from in
          let top = below_ninth _ _ x.sound x.starts (g + 1) (omega arith) in
          let o = w.add_ops-w.ensures in
          let l : length (codes_part n b.codes.now from) ≡ n = part_length n b.codes.now from (omega (arith, c.requires.1)) in
          let m = fed_raw 8 b.table.now b.records.now (batches_in b) (codes_part n b.codes.now from) c.loop-g.w in
          let f = ends r x b.codes.now a.at c.requires.1 from g c.loop-g-test.true v.0 (sym c.flag.ensures ∙ w.if-flag-eq1.true) (omega arith) in
          rw (w.w-is, w.from-is, o, e)
          (omega arith, omega (arith, m, l, v.0, v.1), t, sym (fed_append 8 b.table.now b.records.now (batches_in b) _ _ c.loop-g.w) ∙ (ap (λ (q : List ℕ). fed_in b q c.loop-g.w) (sym f) ∙ v.3))
      | else-flag-eq1 w ↦
          let k : get_or r.flags g 0 ≡ 1 → get_or r.starts (g + 1) 0 ≤ get_or r.starts g 0 = λ h. elim w.else-flag-eq1.either [ inl p ↦ omega (arith, p.1) | inr q ↦ absurd (q (c.flag.ensures ∙ h)) ] in
          rw (w.w-is, w.from-is)
          (omega (arith, v.0, up), v.1, t, ap (λ (q : List ℕ). fed_in b q c.loop-g.w) (goes_on r x b.codes.now a.at c.requires.1 from g c.loop-g-test.true v.0 k) ∙ v.3)
    ]

pub add_ops-requires : goal.add_ops-requires
add_ops-requires c =
    let v = c.loop-g.invariant in
    let x = laid_at _ _ _ c.args.self.now.judged.runs c.requires.0 in
    let up = below_ninth _ _ x.sound x.starts c.loop-g.g (omega arith) in
    (omega (arith, v.0, up, c.start.ensures.0), omega (arith, c.start.ensures.0, c.requires.1), v.1)

pub returns : goal.returns
returns c =
    let v = c.loop-g.invariant in
    let a = c.args in
    let b = a.self.now in
    let x = laid_at _ _ _ b.judged.runs c.requires.0 in
    let inside = c.requires.1 in
    let g = c.loop-g.g in
    let z : number 256 (drop g (record_at b.records.now a.b).flags) ≡ 0 = elim c.loop-g-test.branch [ else-loop-g-test w ↦ none_ahead _ x b.codes.now a.at inside g w.loop-g-test.false | then-loop-g-test+then-left-eq0 w ↦ sym v.2 ∙ w.if-left-eq0.true ] in
    c.add_ops.ensures
    ∙ rw c.start.ensures.0 (ap (λ (q : List ℕ). fed_in b q c.loop-g.w) (sym (rest _ x b.codes.now a.at inside (8 - g) c.loop-g.from g (omega arith) v.0 z)))
    ∙ v.3
    ∙ ap (λ (q : List ℕ). fed_in b q a.work) (first _ x b.codes.now a.at inside)
