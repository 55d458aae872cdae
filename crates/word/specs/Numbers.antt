-- Runs of which what they begin with stays, and zeros follow.
use Rattle.std.specs.Prelude.{◌≡◌, refl, List, [], ◌∷◌, ◌++◌, ℕ, zero, suc, ◌+◌, ◌-◌, ℤ, pos, length, take, replicate}
use Rattle.std.proofs.Common.{sym, ap, ◌∙◌, arith, length-take}
use Rattle.std.proofs.Math.Seq.{take-append-add}
use Rattle.std.proofs.lemmas.List.{take-replicate}
use Rattle.rules.specs.Lists.{fitted}

-- the first k, then zeros
abbrev pub zeroed : List ℤ → ℕ → List ℤ
zeroed s k = take (length s) (take k s ++ replicate (length s) (pos 0))

-- both are: the first k, and zeros in place of the others
pub fitted_after : (s : List ℕ) (k : ℕ) → fitted (length s) (take k s) ≡ take k s ++ replicate (length s - k) 0
unfolding fitted
fitted_after [] zero = refl
fitted_after [] (suc k) = let e : 0 - suc k ≡ 0 = omega arith in rw e
fitted_after (x ∷ s) zero =
    let e : suc (length s) - 0 ≡ suc (length s - 0) = omega arith in
    rw e (ap (λ (r : List ℕ). 0 ∷ r) (fitted_after s zero))
fitted_after (x ∷ s) (suc k) =
    let e : suc (length s) - suc k ≡ length s - k = omega arith in
    rw e (ap (λ (r : List ℕ). x ∷ r) (fitted_after s k))

pub zeroed_after : (s : List ℤ) (k : ℕ) → zeroed s k ≡ take k s ++ replicate (length s - k) (pos 0)
zeroed_after s k =
    let z : List ℤ = replicate (length s) (pos 0) in
    let e : length (take k s) + (length s - k) ≡ length s = omega (arith, length-take k s) in
    ap (λ (n : ℕ). take n (take k s ++ z)) (sym e) ∙ take-append-add (take k s) z (length s - k) ∙ ap (λ (r : List ℤ). take k s ++ r) (take-replicate (length s - k) (length s) (pos 0) (omega arith))
