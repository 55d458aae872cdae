-- Digits put together and taken apart: how large they are, and what is stored of them. Assumes nothing.
use Rattle.std.proofs.Common.{◌≡◌, ℕ, zero, suc, ◌+◌, ◌*◌, ◌/◌, ◌%◌, ◌^◌, ◌<◌, ◌≤◌, Bool, true, ◌&&◌, leb, List, [], ◌∷◌, length, get_or, w64, refl, ap, ◌∙◌, pow-suc, arith, leb-true}
use Rattle.std.specs.Int.{to_le_bytes}
use native.Mathlib.Nat.{zero-add, pow-zero, mul_comm, mul-le-mul_left, pow-le-pow_right, mod-eq_of_lt, div-eq_of_lt, add-mul-mod_self_left, add-mul-div_left, div-div-eq-div-mul}
use Rattle.rules.specs.Lists.{every}
use Rattle.rules.specs.Digits.{digits, number, le_at}
use Rattle.rules.specs.Record.{differences, bytes_at}
use Rattle.rules.specs.Checks.{starts_right}
use Rattle.rules.proofs.Operations.{true_left, true_right}
use Rattle.op_batch.proofs.Right.{every_at, starts_at}
use Rattle.op_batch.proofs.Places.{differences_length, differences_at}

-- ---- how large a number and a digit are

pub number_below : (b : ℕ) (ds : List ℕ) → ((i : ℕ) → i < length ds → get_or ds i 0 < b) → number b ds < b ^ length ds
unfolding number
number_below b [] h = rw pow-zero (omega arith)
number_below b (d ∷ ds) h =
    let first : d < b = h 0 (omega arith) in
    let rest : number b ds + 1 ≤ b ^ length ds = omega (arith, number_below b ds (λ i l. h (suc i) (omega arith))) in
    let all = mul-le-mul_left b rest in
    rw pow-suc (omega (arith, first, all, mul_comm (b ^ length ds) b))

pub codes_number_fits : (codes : List ℕ) → length codes ≤ 9 → ((i : ℕ) → i < length codes → get_or codes i 0 < 128) → number 128 codes < 2 ^ 64
codes_number_fits codes h k = let p : 128 ^ length codes ≤ 128 ^ 9 = pow-le-pow_right (omega arith) h in omega (arith, number_below 128 codes k, p)

pub bits_number_fits : (fs : List ℕ) → length fs ≡ 8 → every (λ (f : ℕ). leb f 1) fs ≡ true → number 2 fs < 256
bits_number_fits fs e h =
    let n = number_below 2 fs (λ i l. omega (arith, leb-true (get_or fs i 0) 1 (every_at (λ (f : ℕ). leb f 1) fs i h l))) in
    omega (arith, rw e at n)

-- ---- eight sizes as the bytes of one number

pub digits_number : (b : ℕ) (ds : List ℕ) → ((i : ℕ) → i < length ds → get_or ds i 0 < b) → digits b (length ds) (number b ds) ≡ ds
unfolding number digits
digits_number b [] h = refl
digits_number b (d ∷ ds) h =
    let l : d < b = h 0 (omega arith) in
    let p : 0 < b = omega (arith, l) in
    let m : (d + b * number b ds) % b ≡ d = add-mul-mod_self_left d b (number b ds) ∙ mod-eq_of_lt l in
    let q : (d + b * number b ds) / b ≡ number b ds = add-mul-div_left d (number b ds) p ∙ rw (div-eq_of_lt l) (zero-add (number b ds)) in
    rw (m, q, digits_number b ds (λ i k. h (suc i) (omega arith)))

eight : (v : ℕ) → to_le_bytes w64 v ≡ digits 256 8 v
unfolding digits
eight v = simp div-div-eq-div-mul

module _ (s : List ℕ) (l : length s ≡ 9) (h : starts_right s ≡ true) where
  size_small : (k : ℕ) → k < length (differences s) → get_or (differences s) k 0 ≤ 9
  size_small k m =
      let r = starts_at s k h (omega (arith, differences_length s)) in
      rw (differences_at s k (omega (arith, differences_length s))) (omega (arith, r.1))

  pub bytes_of_sizes : to_le_bytes w64 (number 256 (differences s)) ≡ differences s
  bytes_of_sizes =
      let n : 8 ≡ length (differences s) = omega (arith, differences_length s) in
      eight (number 256 (differences s))
      ∙ ap (λ (k : ℕ). digits 256 k (number 256 (differences s))) n
      ∙ digits_number 256 (differences s) (λ i k. omega (arith, size_small i k))

  pub sizes_number_fits : number 16 (differences s) < 2 ^ 64
  sizes_number_fits =
      let n : length (differences s) ≡ 8 = omega (arith, differences_length s) in
      let b = number_below 16 (differences s) (λ i k. omega (arith, size_small i k)) in
      omega (arith, rw n at b)

-- ---- all sizes at once: no byte borrows from the next

abbrev Step : List ℕ → ℕ → Type 0
Step s j = (get_or s j 0 ≤ get_or s (j + 1) 0) × (get_or s (j + 1) 0 ≤ get_or s j 0 + 9)

-- the first step and those after it
step_at : (s : List ℕ) (j : ℕ) (rest : Bool) → ((leb (get_or s j 0) (get_or s (j + 1) 0)) && (leb (get_or s (j + 1) 0) (get_or s j 0 + 9) && rest)) ≡ true → Step s j × (rest ≡ true)
step_at s j rest h =
    let a = get_or s j 0 in
    let b = get_or s (j + 1) 0 in
    let r = true_right (leb a b) (leb b (a + 9) && rest) h in
    ((leb-true a b (true_left (leb a b) (leb b (a + 9) && rest) h), leb-true b (a + 9) (true_left (leb b (a + 9)) rest r)), true_right (leb b (a + 9)) rest r)

pub sizes_at_lem : (n : ℕ) (s : List ℕ) (at : ℕ) → starts_right (bytes_at (suc n) s at) ≡ true → le_at n s (at + 1) ≡ number 256 (differences (bytes_at (suc n) s at)) + le_at n s at
unfolding starts_right bytes_at differences number le_at
sizes_at_lem zero s at h = refl
sizes_at_lem (suc n) s at h =
    let k = step_at s at (starts_right (bytes_at (suc n) s (at + 1))) h in
    omega (arith, k.0, sizes_at_lem n s (at + 1) k.1)
