-- A run that is zeroed from a place on. Assumes nothing.
use mathlib.Core.Path.{◌≡◌, ap, ◌∙◌}
use mathlib.Core.List.{List, [], ◌∷◌, ◌++◌, append_assoc}
use Prim.Native.Nat.{ℕ, ◌+◌, ◌-◌, ◌≤◌, ◌<◌}
use native.Mathlib.Omega.{arith}
use lib.ListN.{length, take, set, replicate}
use Rattle.std.proofs.lemmas.List.{take_more_set, replicate_more}

pub zero_turn : {X : Type 0} (s l : List X) (k i : ℕ) (y z : X) → y ≡ z → k ≤ i → i < length l → take i l ≡ take k s ++ replicate (i - k) z → take (i + 1) (set l i y) ≡ take k s ++ replicate (i + 1 - k) z
zero_turn {X} s l k i y z same h lt e =
    let n : i - k + 1 ≡ i + 1 - k = omega arith in
    take_more_set l i y lt
    ∙ ap (λ (r : List X). r ++ (y ∷ [])) e
    ∙ append_assoc (take k s) (replicate (i - k) z) (y ∷ [])
    ∙ ap (λ (r : List X). take k s ++ r) (ap (λ (x : X). replicate (i - k) z ++ (x ∷ [])) same ∙ replicate_more (i - k) z ∙ ap (λ (j : ℕ). replicate j z) n)
