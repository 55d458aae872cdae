use mathlib.Core.Path.{◌≡◌, ap, ◌∙◌}
use mathlib.Core.List.{List}
use native.Mathlib.Omega.{arith}
use Prim.Native.Nat.{ℕ, suc, ◌+◌, ◌*◌, ◌/◌, ◌%◌}
use lib.ListN.{set}
use lib.Seq.{sets}
use Rattle.rules.specs.Digits.{digits, le_bytes}
use Rattle.rules.specs.Bytes.{count_bytes}
use Rattle.rules.proofs.Sizes.{more_0, more_1, more_2}
use Rattle.wire.proofs.write_count.Goals as goal

pub returns-then-v-lt128 : goal.returns-then-v-lt128
unfolding count_bytes digits
returns-then-v-lt128 c =
    let a = c.args in
    rw (more_0 a.v (omega arith)) (omega arith, ap (λ (x : ℕ). set a.out.now a.at x) (omega arith))

pub put-requires : goal.put-requires
put-requires c =
    let a = c.args in
    omega (arith, more_1 a.v (omega arith) (omega arith))

pub returns-then-v-lt16384 : goal.returns-then-v-lt16384
unfolding count_bytes
returns-then-v-lt16384 c =
    let a = c.args in
    rw (more_1 a.v (omega arith) (omega arith))
    (omega arith, c.put.ensures ∙ ap (λ (x : ℕ). sets a.out.now a.at (le_bytes 2 x)) (omega arith))

pub put-requires-2 : goal.put-requires-2
put-requires-2 c =
    let a = c.args in
    omega (arith, more_2 a.v (omega arith))

pub bounds-out-at-2 : goal.bounds-out-at-2
bounds-out-at-2 c =
    let a = c.args in
    omega (arith, more_2 a.v (omega arith), c.put-2.auto.out)

pub returns : goal.returns
unfolding count_bytes digits
returns c =
    let a = c.args in
    let x : ℕ = a.v * 8 + 4 in
    let e : (2 * a.v + 1) * 4 ≡ x = omega arith in
    let h : x / 65536 ≡ x / 256 / 256 % 256 = omega arith in
    let f : a.at + 2 ≡ suc (suc a.at) = omega arith in
    rw (more_2 a.v (omega arith), e)
    (omega arith, ap (λ (l : List ℕ). set l (a.at + 2) (x / 65536)) c.put-2.ensures ∙ rw (h, f))
