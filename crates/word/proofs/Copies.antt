-- Copies of a byte, by stores of several bytes that may overlap. Assumes nothing.
use mathlib.Core.Path.{◌≡◌, refl, ap, ◌∙◌}
use mathlib.Core.List.{List, [], ◌∷◌}
use Prim.Native.Nat.{ℕ, zero, suc, ◌+◌, ◌-◌, ◌*◌, ◌/◌, ◌%◌, ◌≤◌, ◌<◌, min}
use native.Mathlib.Nat.{add-mul-mod_self_left, add-mul-div_left}
use native.Mathlib.Numerals.{add-one}
use native.Mathlib.Omega.{arith}
use lib.ListN.{length, set, replicate}
use lib.Seq.{sets, set-set, set_comm, set_out}
use Rattle.rules.specs.Digits.{digits, le_bytes}

-- ---- a loop that stores copies, until m or the end of the run

module _ {A : Type 0} where
  pub fill_init : (l : List A) (at n : ℕ) (v : A) → sets l at (replicate (at + n - at) v) ≡ sets l at (replicate n v)
  fill_init l at n v = let e : at + n - at ≡ n = omega arith in rw e

  pub fill_turn : (l : List A) (i m : ℕ) (v : A) → i < m → sets (set l i v) (i + 1) (replicate (m - (i + 1)) v) ≡ sets l i (replicate (m - i) v)
  fill_turn l i m v h =
      let e : m - i ≡ suc (m - (i + 1)) = omega arith in
      rw (e, add-one)

  pub past : (l vs : List A) (i : ℕ) → length l ≤ i → sets l i vs ≡ l
  past l [] i h = refl
  past l (v ∷ vs) i h = ap (λ (d : List A). sets d (suc i) vs) (set_out l i v h) ∙ past l vs (suc i) (omega arith)

  ended : (l : List A) (i k : ℕ) (v : A) → (0 < k → length l ≤ i) → sets l i (replicate k v) ≡ l
  ended l i zero v h = refl
  ended l i (suc k) v h = past l (replicate (suc k) v) i (h (omega arith))

  pub fill_end : (l : List A) (i m : ℕ) (v : A) → min (length l) m ≤ i → sets l i (replicate (m - i) v) ≡ l
  fill_end l i m v h = ended l i (m - i) v (λ some. omega arith)

-- ---- copies by stores of several bytes

-- a byte repeated, as a number
abbrev repeated : ℕ → ℕ → ℕ
repeated zero v = 0
repeated (suc k) v = v + 256 * repeated k v

same : (k v n : ℕ) → v < 256 → n ≡ repeated k v → le_bytes k n ≡ replicate k v
unfolding digits
same zero v n h e = refl
same (suc k) v n h e =
    let m = repeated k v in
    let a : (v + 256 * m) % 256 ≡ v = add-mul-mod_self_left v 256 m ∙ omega arith in
    let b : (v + 256 * m) / 256 ≡ m = add-mul-div_left v m {y = 256} (omega arith) ∙ omega arith in
    rw (e, a, b) (ap (λ (l : List ℕ). v ∷ l) (same k v m h refl))

-- a store and later ones
set_sets : (l : List ℕ) (i j v : ℕ) (vs : List ℕ) → i < j → set (sets l j vs) i v ≡ sets (set l i v) j vs
set_sets l i j v [] h = refl
set_sets l i j v (x ∷ vs) h = set_sets (set l j x) i (suc j) v vs (omega arith) ∙ ap (λ (r : List ℕ). sets r (suc j) vs) (set_comm l j i x v (λ e. omega arith))

-- copies over copies, from the same place on, and from a later one
again : (l : List ℕ) (i v m k : ℕ) → m ≤ k → sets (sets l i (replicate m v)) i (replicate k v) ≡ sets l i (replicate k v)
again l i v zero k h = refl
again l i v (suc m) zero h = absurd (omega arith)
again l i v (suc m) (suc k) h =
    ap (λ (r : List ℕ). sets r (suc i) (replicate k v)) (set_sets (set l i v) i (suc i) v (replicate m v) (omega arith) ∙ ap (λ (r : List ℕ). sets r (suc i) (replicate m v)) (set-set l i v v))
    ∙ again (set l i v) (suc i) v m k (omega arith)

over : (l : List ℕ) (i v j m k : ℕ) → j ≤ m → m ≤ j + k → sets (sets l i (replicate m v)) (i + j) (replicate k v) ≡ sets l i (replicate (j + k) v)
over l i v zero m k h g =
    let a : i + 0 ≡ i = omega arith in
    let b : 0 + k ≡ k = omega arith in
    rw (a, b) (again l i v m k (omega arith))
over l i v (suc j) zero k h g = absurd (omega arith)
over l i v (suc j) (suc m) k h g =
    let a : i + suc j ≡ suc i + j = omega arith in
    let b : suc j + k ≡ suc (j + k) = omega arith in
    rw (a, b) (over (set l i v) (suc i) v j m k (omega arith) (omega arith))

-- k copies at the front and k at the end, each in one store
pub ends : (l : List ℕ) (i v k n m : ℕ) → v < 256 → m ≡ repeated k v → k ≤ n → n ≤ k + k → sets (sets l i (le_bytes k m)) (i + n - k) (le_bytes k m) ≡ sets l i (replicate n v)
ends l i v k n m b e h g =
    let a : i + n - k ≡ i + (n - k) = omega arith in
    let c : n - k + k ≡ n = omega arith in
    rw (same k v m b e, a) (over l i v (n - k) k k (omega arith) (omega arith) ∙ ap (λ (j : ℕ). sets l i (replicate j v)) c)
