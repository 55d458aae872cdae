-- Laws of digits and little-endian numbers, and of stores one after the other. Assumes nothing.
use mathlib.Core.Path.{◌≡◌, refl, sym, ap, ◌∙◌}
use mathlib.Core.List.{List, [], ◌∷◌, ◌++◌}
use Prim.Native.Nat.{ℕ, zero, suc, ◌+◌, ◌-◌, ◌*◌, ◌/◌, ◌%◌, ◌^◌, ◌≤◌, ◌<◌}
use native.Mathlib.Nat.{zero-add, suc-add, add-zero, add-suc, pow-suc, mul_assoc, mul_comm, div-div-eq-div-mul}
use native.Mathlib.Nat.{div-one, lt_of_not-le}
use native.Mathlib.Decide.{dec_le}
use native.Mathlib.Omega.{arith}
use lib.ListN.{length-append, length, set, get_or}
use lib.Seq.{sets, get_or-append_seam, append_snoc}
use Rattle.rules.specs.Digits.{digits, le_at, le_bytes}

-- ---- a case split on two numbers

pub split {ℓ} : {C : Type ℓ} (a b : ℕ) → (a < b → C) → (b ≤ a → C) → C
split a b f g = elim (dec_le b a) [ yes h ↦ g h | no h ↦ f (lt_of_not-le h) ]

-- ---- little-endian numbers

pub le_at_split : (j k : ℕ) (s : List ℕ) (at : ℕ) → le_at (j + k) s at ≡ le_at j s at + 256 ^ j * le_at k s (at + j)
unfolding le_at
le_at_split zero k s at = rw (zero-add, add-zero) (omega arith)
le_at_split (suc j) k s at =
    let ih = le_at_split j k s (at + 1) in
    let e : at + 1 + j ≡ at + suc j = omega arith in
    rw (suc-add, pow-suc) (omega (arith, ih, ap (λ (i : ℕ). 256 ^ j * le_at k s i) e, mul_assoc (256 ^ j) 256 (le_at k s (at + suc j)), mul_comm 256 (le_at k s (at + suc j)), mul_assoc (256 ^ j) (le_at k s (at + suc j)) 256))

pub le_bytes_split : (j k v : ℕ) → le_bytes (j + k) v ≡ le_bytes j v ++ le_bytes k (v / 256 ^ j)
unfolding digits
le_bytes_split zero k v = rw (zero-add, div-one)
le_bytes_split (suc j) k v =
    rw suc-add
    (ap (λ (r : List ℕ). v % 256 ∷ r)
    (le_bytes_split j k (v / 256) ∙ ap (λ (n : ℕ). le_bytes j (v / 256) ++ le_bytes k n) (div-div-eq-div-mul v 256 (256 ^ j) ∙ ap (λ (n : ℕ). v / n) (mul_comm 256 (256 ^ j) ∙ sym (pow-suc 256 j)))))

pub length_digits : (b k v : ℕ) → length (digits b k v) ≡ k
unfolding digits
length_digits b zero v = refl
length_digits b (suc k) v = ap suc (length_digits b k (v / b))

pub length_le_bytes : (k v : ℕ) → length (le_bytes k v) ≡ k
length_le_bytes k v = length_digits 256 k v

-- ---- stores one after the other

pub sets_append : {A : Type 0} (l : List A) (i : ℕ) (xs ys : List A) → sets l i (xs ++ ys) ≡ sets (sets l i xs) (i + length xs) ys
sets_append l i [] ys = rw add-zero
sets_append l i (x ∷ xs) ys = sets_append (set l i x) (suc i) xs ys ∙ ap (λ (n : ℕ). sets (sets (set l i x) (suc i) xs) n ys) (suc-add i (length xs) ∙ sym (add-suc i (length xs)))

-- ---- what was written is read back

pub le_at_back : (k v : ℕ) (p q : List ℕ) → v < 256 ^ k → le_at k (p ++ (le_bytes k v ++ q)) (length p) ≡ v
unfolding le_at digits
le_at_back zero v p q h = omega arith
le_at_back (suc k) v p q h =
    let r : List ℕ = le_bytes k (v / 256) ++ q in
    let hd : get_or (p ++ (v % 256 ∷ r)) (length p) 0 ≡ v % 256 = get_or-append_seam p (v % 256) r 0 in
    let small : v / 256 < 256 ^ k = omega (arith, rw pow-suc at h) in
    let ih : le_at k ((p ++ (v % 256 ∷ [])) ++ r) (length (p ++ (v % 256 ∷ []))) ≡ v / 256 = le_at_back k (v / 256) (p ++ (v % 256 ∷ [])) q small in
    let tl : le_at k (p ++ (v % 256 ∷ r)) (length p + 1) ≡ v / 256 = rw (length-append, append_snoc) at ih in
    omega (arith, hd, tl)

-- ---- digits from the lowest on

pub digits_turn : (b n i v : ℕ) → i < n → digits b (n - i) v ≡ v % b ∷ digits b (n - (i + 1)) (v / b)
unfolding digits
digits_turn b n i v h = let e : n - i ≡ suc (n - (i + 1)) = omega arith in rw e

pub digits_end : (b n i v : ℕ) → n ≤ i → digits b (n - i) v ≡ []
unfolding digits
digits_end b n i v h = let e : n - i ≡ 0 = omega arith in rw e
