-- Two answers behind the same guards, and a bound on what is left behind guards. Assumes nothing.
use mathlib.Core.Path.{◌≡◌, refl}
use mathlib.Core.Bool.{Bool, true, false}
use mathlib.Core.List.{List, [], ◌∷◌}
use Prim.Native.Nat.{ℕ, zero, suc, ◌+◌, ◌≤◌}
use Rattle.rules.specs.Answer.{Answer, good, refused, refuse, refuse_first}

module _ {A : Type 0} where
  pub same_refuse : (b : Bool) (n p : ℕ) (x y : Answer A) → (b ≡ false → x ≡ y) → refuse b n p x ≡ refuse b n p y
  same_refuse true n p x y h = refl
  same_refuse false n p x y h = h refl

  -- what follows knows that there was no fault
  pub same_first : (i : ℕ) (ns : List ℕ) (x y : Answer A) → (◌≡◌ {A = Answer Unit} (refuse_first i ns (good tt)) (good tt) → x ≡ y) → refuse_first i ns x ≡ refuse_first i ns y
  unfolding refuse_first
  same_first i [] x y h = h refl
  same_first i (zero ∷ ns) x y h = same_first (i + 1) ns x y h
  same_first i (suc n ∷ ns) x y h = refl

-- where a refusal leaves little enough
module _ {A : Type 0} (size : Answer A → ℕ) (m : ℕ) (z : (n p : ℕ) → size (refused n p) ≤ m) where
  pub short_refuse : (b : Bool) (n p : ℕ) (r : Answer A) → (b ≡ false → size r ≤ m) → size (refuse b n p r) ≤ m
  short_refuse true n p r h = z n p
  short_refuse false n p r h = h refl

  pub short_first : (i : ℕ) (ns : List ℕ) (r : Answer A) → size r ≤ m → size (refuse_first i ns r) ≤ m
  unfolding refuse_first
  short_first i [] r h = h
  short_first i (zero ∷ ns) r h = short_first (i + 1) ns r h
  short_first i (suc n ∷ ns) r h = z (suc n) i
