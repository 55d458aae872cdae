use mathlib.Core.Path.{◌≡◌, refl}
use native.Mathlib.Omega.{arith}
use Prim.Native.Nat.{ℕ, ◌*◌, ◌≤◌}
use mathlib.Core.List.{List}
use lib.ListN.{length}
use Rattle.std.specs.List.{range_with_len}
use Rattle.std.proofs.Common.{rules}
use Rattle.std.proofs.lemmas.List.FromFn.{length-range_with_len}
use Rattle.std.proofs.lemmas.Fn.{chained_keeps}
use Rattle.std.proofs.lemmas.Iterator.{YieldsList-from_range}
use Rattle.std.proofs.lemmas.Iterator.Consumers.{count_from_yields_List}
use Rattle.listing.proofs.Totals.{one_more}
use Rattle.listing.proofs.paddings.Goals as goal

pub returns : goal.returns
returns c =
    let (xs, f, all, turns) = c.fold.ensures.ran in
    let r : c.fold.result ≤ 8 * length xs = chained_keeps _ (λ (ys : List ℕ) p. p.1 ≤ 8 * length ys) (λ ys q x v h k. search (rules, one_more)) xs _ _ (omega arith) turns in
    let n : length xs ≡ length (range_with_len 0 c.args.batches) = count_from_yields_List _ (length xs) (xs, all, refl) (YieldsList-from_range 0 c.args.batches c.args.batches refl (omega arith)) in
    omega (arith, r, n, length-range_with_len 0 c.args.batches)
