-- A count of paddings, a batch at a time. Assumes nothing.
use mathlib.Core.Path.{◌≡◌}
use mathlib.Core.List.{List, [], ◌∷◌, ◌++◌}
use Prim.Native.Nat.{ℕ, ◌+◌, ◌*◌, ◌%◌, ◌≤◌}
use native.Mathlib.Omega.{arith}
use lib.ListN.{length}
use Rattle.std.proofs.lemmas.List.{length-append}

pub one_more : (ys : List ℕ) (x a n b : ℕ) → b ≡ (a + n) % 18446744073709551616 → n ≤ 8 → a ≤ 8 * length ys → b ≤ 8 * length (ys ++ x ∷ [])
one_more ys x a n b e k h = omega (arith, length-append ys (x ∷ []))
