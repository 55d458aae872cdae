use mathlib.Core.Path.{refl, ◌∙◌}
use Prim.Native.Nat.{◌+◌, ◌-◌}
use native.Mathlib.Omega.{arith}
use lib.ListN.{length-take, length-drop, take, drop}
use Rattle.std.proofs.lemmas.List.{get_or-take, get_or-drop}
use Rattle.strict.specs.Model.{fed}
use Rattle.strict.specs.Walk.{batches_in}
use Rattle.strict.proofs.Works.{fed_raw, fed_more}
use Rattle.strict.proofs.Walk.add_ops.Goals as goal

pub loop-code-init : goal.loop-code-init
unfolding fed
loop-code-init c = refl

pub step-w-requires : goal.step-w-requires
step-w-requires c =
    let b = c.args.self.now in
    let i = c.loop-code.code-index in
    let n = c.args.to - c.args.from in
    let xs = take n (drop c.args.from b.codes.now) in
    let l = length-take n (drop c.args.from b.codes.now) in
    let m = length-drop c.args.from b.codes.now in
    let r = fed_raw 8 b.table.now b.records.now (batches_in b) (take i xs) c.args.work in (
      rw (get_or-take n (drop c.args.from b.codes.now) i 0 (omega (arith, l)), get_or-drop c.args.from b.codes.now i 0) (b.judged.apt.codes (c.args.from + i) (omega (arith, l, m))),
      rw c.loop-code.invariant (omega (arith, r, length-take i xs, l, m, c.requires, b.judged.few)),
    )

pub loop-code-preserved : goal.loop-code-preserved
loop-code-preserved c = c.step-w.ensures ∙ rw c.loop-code.invariant (fed_more 8 _ _ _ _ c.loop-code.code-index _ c.loop-code-test.true)
