-- Flags that are set, one after the other; rooms that are emptied. Assumes nothing.
use mathlib.Core.Path.{◌≡◌, refl, sym, ap, ◌∙◌}
use mathlib.Core.Bool.{cond}
use mathlib.Core.List.{List, [], ◌∷◌, ◌++◌}
use Prim.Native.Nat.{ℕ, zero, suc, ◌+◌, ◌-◌, ◌≤◌, ◌<◌}
use native.Mathlib.Nat.{zero-add, suc-add}
use native.Mathlib.Numerals.{add-one}
use native.Mathlib.Omega.{arith}
use borrow.Author.Tests.{eq-eqb}
use lib.ListN.{length, get_or, take, drop, replicate}
use lib.Seq.{take-suc, length-take-le}
use lib.Dec.{eqb}
use Rattle.rules.specs.Lists.{fitted}
use Rattle.rules.specs.Digits.{number}
use Rattle.rules.specs.Compare.{flags_set}
use Rattle.comparison.specs.Model.{zeros_over}

-- the first g flags, and k more
flags_split : (g k : ℕ) (fs : List ℕ) → flags_set (take (g + k) fs) ≡ flags_set (take g fs) + flags_set (take k (drop g fs))
unfolding flags_set
flags_split zero k fs = rw (zero-add k) (sym (zero-add _))
flags_split (suc g) zero [] = rw (suc-add g 0) (omega arith)
flags_split (suc g) (suc k) [] = rw (suc-add g (suc k)) (omega arith)
flags_split (suc g) k (f ∷ fs) = rw (suc-add g k, flags_split g k fs) (omega arith)

none_set : (k : ℕ) (fs : List ℕ) → number 256 fs ≡ 0 → flags_set (take k fs) ≡ 0
unfolding flags_set number
none_set zero fs h = refl
none_set (suc k) [] h = refl
none_set (suc k) (f ∷ fs) h = rw (eq-eqb f 0 (omega arith)) (omega (arith, none_set k fs (omega arith)))

-- no flag is set from the g-th on
pub flags_rest : (g k : ℕ) (fs : List ℕ) → g ≤ k → number 256 (drop g fs) ≡ 0 → flags_set (take k fs) ≡ flags_set (take g fs)
flags_rest g k fs h e = let m : k ≡ g + (k - g) = omega arith in rw m (omega (arith, flags_split g (k - g) fs, none_set (k - g) (drop g fs) e))

flags_snoc : (fs : List ℕ) (f : ℕ) → flags_set (fs ++ (f ∷ [])) ≡ flags_set fs + cond (eqb f 0) 0 1
unfolding flags_set
flags_snoc [] f = omega arith
flags_snoc (g ∷ fs) f = rw (flags_snoc fs f) (omega arith)

-- a flag that is 0 or 1 more
pub flags_turn : (fs : List ℕ) (g : ℕ) → g < length fs → get_or fs g 0 ≤ 1 → flags_set (take (g + 1) fs) ≡ flags_set (take g fs) + get_or fs g 0
flags_turn fs g h l = rw (add-one g, take-suc fs g 0 h) (flags_snoc (take g fs) (get_or fs g 0) ∙ ap (λ (n : ℕ). flags_set (take g fs) + n) (go (get_or fs g 0) l))
  where
    go : (f : ℕ) → f ≤ 1 → cond (eqb f 0) 0 1 ≡ f
    go zero k = refl
    go (suc f) k = let e : f ≡ 0 = omega arith in rw e

-- ---- zeros over the front of a run

pub front_zeroed : (n : ℕ) (s z : List ℕ) → n ≤ length s → z ≡ replicate (length (take n s)) 0 → z ++ drop n s ≡ zeros_over n s
front_zeroed n s z h e = rw (e, length-take-le n s h)

-- decode's zeros behind them, the run is empty
pub all_zeroed : (m n : ℕ) (xs : List ℕ) → length xs ≡ n → n ≤ m → zeros_over n (fitted m xs) ≡ fitted m []
unfolding fitted
all_zeroed m zero [] e h = refl
all_zeroed zero (suc n) xs e h = absurd (omega arith)
all_zeroed m zero (x ∷ xs) e h = absurd (omega arith)
all_zeroed (suc m) (suc n) [] e h = absurd (omega arith)
all_zeroed (suc m) (suc n) (x ∷ xs) e h = ap (λ (r : List ℕ). 0 ∷ r) (all_zeroed m n xs (omega arith) (omega arith))
