use mathlib.Core.Path.{◌≡◌, ap, sym, ◌∙◌}
use native.Mathlib.Omega.{arith}
use Prim.Native.Nat.{ℕ, ◌-◌, ◌+◌}
use mathlib.Core.List.{List}
use lib.ListN.{take}
use borrow.Rule.Slice.PartMut.{put_mid}
use Rattle.rules.specs.Digits.{le_bytes}
use Rattle.word.proofs.Bytes.{written, fewer}
use Rattle.word.proofs.Copies.{past}
use Rattle.word.proofs.put_some.Goals as goal

pub returns-then-at-end : goal.returns-then-at-end
returns-then-at-end c =
    let a = c.args in
    let n = c.min-end.result - a.at in
    let e : n ≡ a.at + n - a.at = omega arith in
    ap (λ (k : ℕ). put_mid a.at k a.out.now c.copy_from_slice.new.self) e
    ∙ written a.out.now _ a.at n a.v (omega (arith, c.min-end.ensures)) (omega (arith, c.min-end.ensures)) (c.copy_from_slice.ensures.after ∙ ap (λ (l : List ℕ). take n l) c.to_le_bytes.ensures)
    ∙ fewer a.out.now a.at n a.v (omega (arith, c.min-end.ensures)) (λ few. omega (arith, c.min-end.ensures))

pub returns-else-at-end : goal.returns-else-at-end
returns-else-at-end c = let a = c.args in sym (past a.out.now (le_bytes 8 a.v) a.at (omega (arith, c.min-end.ensures)))
