-- Digits of a number, taken from the lowest on and put together from the highest on. Assumes nothing.
use mathlib.Core.Path.{◌≡◌, sym, ap, ◌∙◌}
use mathlib.Core.List.{List, [], ◌∷◌, ◌++◌, append_assoc, append-nil}
use Prim.Native.Nat.{ℕ, ◌+◌, ◌-◌, ◌*◌, ◌/◌, ◌%◌, ◌≤◌, ◌<◌}
use native.Mathlib.Nat.{mul_comm, mul-le-mul_left, mul-le-mul_right}
use native.Mathlib.Omega.{arith}
use lib.ListN.{length, take, set}
use Rattle.std.specs.List.{push}
use Rattle.std.proofs.Math.Seq.{take-length}
use Rattle.std.proofs.lemmas.List.{take_more_set}
use Rattle.rules.specs.Digits.{digits, number}
use Rattle.rules.proofs.Digits.{digits_turn, digits_end}

-- one more digit, the lowest of those that are left
pub digit_more : (l ds : List ℕ) (b n i v : ℕ) → i < n → i < length l → take i l ++ digits b (n - i) v ≡ ds → take (i + 1) (set l i (v % b)) ++ digits b (n - (i + 1)) (v / b) ≡ ds
digit_more l ds b n i v h k e =
    ap (λ (r : List ℕ). r ++ digits b (n - (i + 1)) (v / b)) (take_more_set l i (v % b) k)
    ∙ append_assoc (take i l) (v % b ∷ []) (digits b (n - (i + 1)) (v / b))
    ∙ ap (λ (r : List ℕ). take i l ++ r) (sym (digits_turn b n i v h))
    ∙ e

pub all_digits : (l ds : List ℕ) (b n i v : ℕ) → i ≤ n → n ≤ i → length l ≡ n → take i l ++ digits b (n - i) v ≡ ds → l ≡ ds
all_digits l ds b n i v g h k e =
    let all : take i l ≡ l = ap (λ (j : ℕ). take j l) (omega arith) ∙ take-length l in
    sym (rw (digits_end b n i v h, all) (append-nil l)) ∙ e

-- digits before others make the number no smaller
number_last : (b : ℕ) (xs ys : List ℕ) → 1 ≤ b → number b ys ≤ number b (xs ++ ys)
unfolding number
number_last b [] ys h = omega arith
number_last b (x ∷ xs) ys h =
    let l = mul-le-mul_left b (number_last b xs ys h) in
    let k = mul-le-mul_right (number b ys) h in
    omega (arith, k, l)

-- of digits, the last that is left comes before those that are done
module _ (ds rest rest' done : List ℕ) (x : ℕ) (e : ds ≡ rest ++ done) (f : rest ≡ push rest' x) where
  pub more_done : ds ≡ rest' ++ (x ∷ done)
  more_done = e ∙ rw f (append_assoc rest' (x ∷ []) done)

  pub number_more : (b v : ℕ) → v ≡ number b done → v * b + x ≡ number b (x ∷ done)
  unfolding number
  number_more b v h = rw h (let c = mul_comm (number b done) b in omega arith)

  pub still_fits : (b m v : ℕ) → v ≡ number b done → 1 ≤ b → number b ds < m → v * b + x < m
  still_fits b m v h o k =
      let l = number_last b rest' (x ∷ done) o in
      let n : number b (rest' ++ (x ∷ done)) < m = rw more_done at k in
      omega (arith, number_more b v h)
