-- Lent runs: content, then zeros (`fitted`), under stores at the end of the content and within it. Assumes nothing.
use mathlib.Core.Path.{◌≡◌, refl, sym, ap, ap₂, ◌∙◌}
use mathlib.Core.List.{List, [], ◌∷◌, ◌++◌, append-nil}
use Prim.Native.Nat.{ℕ, zero, suc, ◌+◌, ◌-◌, ◌/◌, ◌%◌, ◌≤◌, ◌<◌}
use native.Mathlib.Nat.{add-suc, zero-add, suc-add, not-suc-le-zero, le_of_suc-le-suc}
use native.Mathlib.Omega.{arith}
use lib.ListN.{length, take, set, replicate, length-set, drop_of_length-le}
use lib.Seq.{sets, sets-eq, set-append_left}
use Rattle.rules.specs.Digits.{digits, le_bytes}
use Rattle.rules.specs.Lists.{fitted}
use Rattle.rules.proofs.Digits.{sets_append}

pub fitted_length : (n : ℕ) (xs : List ℕ) → length (fitted n xs) ≡ n
unfolding fitted
fitted_length zero xs = refl
fitted_length (suc n) [] = ap suc (fitted_length n [])
fitted_length (suc n) (x ∷ xs) = ap suc (fitted_length n xs)

-- a store at the list's end is one element more, and is lost past the run's end
pub fitted_set : (n : ℕ) (xs : List ℕ) (v : ℕ) → set (fitted n xs) (length xs) v ≡ fitted n (xs ++ (v ∷ []))
unfolding fitted
fitted_set zero xs v = refl
fitted_set (suc n) [] v = refl
fitted_set (suc n) (x ∷ xs) v = ap (λ (l : List ℕ). x ∷ l) (fitted_set n xs v)

-- zeros at the end are there already
pub fitted_zeros : (n : ℕ) (xs : List ℕ) (k : ℕ) → fitted n (xs ++ replicate k 0) ≡ fitted n xs
unfolding fitted
fitted_zeros zero xs k = refl
fitted_zeros (suc n) [] zero = refl
fitted_zeros (suc n) [] (suc k) = ap (λ (l : List ℕ). 0 ∷ l) (fitted_zeros n [] k)
fitted_zeros (suc n) (x ∷ xs) k = ap (λ (l : List ℕ). x ∷ l) (fitted_zeros n xs k)

-- the list stands in front
pub fitted_front : (n : ℕ) (xs : List ℕ) → length xs ≤ n → take (length xs) (fitted n xs) ≡ xs
unfolding fitted
fitted_front n [] h = refl
fitted_front zero (x ∷ xs) h = absurd (omega arith)
fitted_front (suc n) (x ∷ xs) h = ap (λ (l : List ℕ). x ∷ l) (fitted_front n xs (omega arith))

pub zeros_fitted : (n : ℕ) → replicate n 0 ≡ fitted n []
unfolding fitted
zeros_fitted zero = refl
zeros_fitted (suc n) = ap (λ (l : List ℕ). 0 ∷ l) (zeros_fitted n)

-- a run that begins with xs, zeroed from xs's end on
pub zeroed : (e d xs : List ℕ) (k : ℕ) → length d ≡ length e → take (length xs) d ≡ xs → k ≡ length xs → fitted (length d) (take k d) ≡ fitted (length e) xs
zeroed e d xs k h t n = rw (n, h, t)

-- a number stored byte by byte
pub bytes_turn : (d : List ℕ) (at i n v : ℕ) → i < n → sets (set d (at + i) (v % 256)) (at + (i + 1)) (le_bytes (n - (i + 1)) (v / 256)) ≡ sets d (at + i) (le_bytes (n - i) v)
unfolding digits
bytes_turn d at i n v h =
    let e : n - i ≡ suc (n - (i + 1)) = omega arith in
    let f : at + (i + 1) ≡ suc (at + i) = omega arith in
    ap (λ (k : ℕ). sets (set d (at + i) (v % 256)) k (le_bytes (n - (i + 1)) (v / 256))) f ∙ sym (ap (λ (k : ℕ). sets d (at + i) (le_bytes k v)) e)

pub bytes_end : (d : List ℕ) (k i n v : ℕ) → n ≤ i → sets d k (le_bytes (n - i) v) ≡ d
unfolding digits
bytes_end d k i n v h = let e : n - i ≡ 0 = omega arith in rw e

-- stores past a front, and within one
pub set_past : (p s : List ℕ) (k v : ℕ) → set (p ++ s) (length p + k) v ≡ p ++ set s k v
set_past [] s k v = rw (zero-add k)
set_past (x ∷ p) s k v = rw (suc-add (length p) k) (ap (λ (l : List ℕ). x ∷ l) (set_past p s k v))

pub sets_past : (p s : List ℕ) (k : ℕ) (vs : List ℕ) → sets (p ++ s) (length p + k) vs ≡ p ++ sets s k vs
sets_past p s k [] = refl
sets_past p s k (v ∷ vs) =
    ap₂ (λ (l : List ℕ) (j : ℕ). sets l j vs) (set_past p s k v) (sym (add-suc (length p) k)) ∙ sets_past p (set s k v) (suc k) vs

pub sets_front : (s q : List ℕ) (k : ℕ) (vs : List ℕ) → k + length vs ≤ length s → sets (s ++ q) k vs ≡ sets s k vs ++ q
sets_front s q k [] h = refl
sets_front s q k (v ∷ vs) h =
    ap (λ (l : List ℕ). sets l (suc k) vs) (set-append_left s q k v (omega arith))
    ∙ sets_front (set s k v) q (suc k) vs (rw (length-set s k v) (omega arith))

-- a run filled over from its first element on
pub sets_over : (xs q vs : List ℕ) → length vs ≡ length xs → sets (xs ++ q) 0 vs ≡ vs ++ q
sets_over xs q vs h =
    sets_front xs q 0 vs (omega arith)
    ∙ ap (λ (l : List ℕ). l ++ q) (sets-eq vs xs 0 (omega arith) ∙ ap (λ (l : List ℕ). vs ++ l) (drop_of_length-le xs {i = 0 + length vs} (omega arith)) ∙ append-nil vs)

-- stores within what a fitted run holds
pub set_fitted : (n : ℕ) (xs : List ℕ) (k v : ℕ) → k < length xs → set (fitted n xs) k v ≡ fitted n (set xs k v)
unfolding fitted
set_fitted zero [] k v h = refl
set_fitted zero (x ∷ xs) k v h = refl
set_fitted (suc n) [] k v h = absurd (not-suc-le-zero h)
set_fitted (suc n) (x ∷ xs) zero v h = refl
set_fitted (suc n) (x ∷ xs) (suc k) v h = ap (λ (l : List ℕ). x ∷ l) (set_fitted n xs k v (le_of_suc-le-suc h))

pub sets_fitted : (n : ℕ) (xs : List ℕ) (k : ℕ) (vs : List ℕ) → k + length vs ≤ length xs → sets (fitted n xs) k vs ≡ fitted n (sets xs k vs)
sets_fitted n xs k [] h = refl
sets_fitted n xs k (v ∷ vs) h =
    ap (λ (l : List ℕ). sets l (suc k) vs) (set_fitted n xs k v (omega arith)) ∙ sets_fitted n (set xs k v) (suc k) vs (rw (length-set xs k v) (omega arith))

-- a list stored over all of a run
pub sets_all : (xs vs : List ℕ) → length vs ≡ length xs → sets xs 0 vs ≡ vs
sets_all xs vs h = ap (λ (l : List ℕ). sets l 0 vs) (sym (append-nil xs)) ∙ sets_over xs [] vs h ∙ append-nil vs

-- one list stored right after another
pub sets_next : (l : List ℕ) (at : ℕ) (xs : List ℕ) (k : ℕ) (ys : List ℕ) → k ≡ at + length xs → sets (sets l at xs) k ys ≡ sets l at (xs ++ ys)
sets_next l at xs k ys h = rw h (sym (sets_append l at xs ys))
