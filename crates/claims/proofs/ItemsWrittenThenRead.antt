-- What is written is read back: numbers, counts, operations, the batch count. Assumes nothing.
use mathlib.Core.Path.{◌≡◌, refl, sym, ap, ◌∙◌}
use mathlib.Core.Bool.{not}
use mathlib.Core.List.{List, [], ◌∷◌, ◌++◌}
use Prim.Native.Nat.{ℕ, zero, suc, ◌+◌, ◌-◌, ◌*◌, ◌/◌, ◌%◌, ◌^◌, ◌≤◌, ◌<◌}
use native.Mathlib.Nat.{pow-zero, pow-suc, mod-add-div, div-lt_iff_lt-mul, add-mul-mod_self_left, add-mul-div_left, mod-eq_of_lt, div-eq_of_lt, zero-add}
use native.Mathlib.Numerals.{add-one}
use native.Mathlib.Omega.{arith}
use borrow.Author.Tests.{eq-eqb, ne_eqb, lt-leb, lt-ltb, le-ltb}
use lib.ListN.{length, get_or, length-append}
use lib.Seq.{get_or-append_seam, append_snoc}
use lib.Count.{count_trailing_zeros}
use Rattle.rules.specs.Digits.{digits, number, le_at, le_bytes}
use Rattle.rules.specs.Answer.{found}
use Rattle.rules.specs.Operations.{Op, field, kind_of, assigned, valued}
use Rattle.rules.specs.Bytes.{least, count_by, count_at, more, count_bytes, op_at, ops_at, op_bytes, ops_bytes, batch_count_at}
use Rattle.rules.proofs.Operations.{Admissible, op_guards, value_guards, value_tested}
use Rattle.rules.proofs.Digits.{length_digits, le_at_back}
use Rattle.claims.proofs.Lists.{split, map_same}
use Rattle.claims.proofs.Row.{row_back}
use Rattle.claims.proofs.Stands.{Stands, here}
use Rattle.rules.proofs.Sizes.{more_0, more_1, more_2, length_count}
use Rattle.rules.specs.Lists.{All}

-- ---- digits

pub number_digits : (b k v : ℕ) → 0 < b → v < b ^ k → number b (digits b k v) ≡ v
unfolding number digits
number_digits b zero v h l = omega (arith, rw pow-zero at l)
number_digits b (suc k) v h l =
    rw (number_digits b k (v / b) h ((div-lt_iff_lt-mul h).1 (rw pow-suc at l))) (mod-add-div v b)

pub digits_number : (b : ℕ) (ds : List ℕ) → All (λ d. d < b) ds → digits b (length ds) (number b ds) ≡ ds
unfolding number digits
digits_number b [] h = refl
digits_number b (d ∷ ds) h =
    let p : 0 < b = omega (arith, h.0) in
    let m : (d + b * number b ds) % b ≡ d = add-mul-mod_self_left d b (number b ds) ∙ mod-eq_of_lt h.0 in
    let q : (d + b * number b ds) / b ≡ number b ds = add-mul-div_left d (number b ds) p ∙ rw (div-eq_of_lt h.0) (zero-add (number b ds)) in
    rw (m, q, digits_number b ds h.1)

-- ---- the count

pub tz_0 : (b : ℕ) → b % 2 ≡ 1 → count_trailing_zeros 8 b ≡ 0
unfolding count_trailing_zeros
tz_0 b h = rw h

pub tz_1 : (b : ℕ) → b % 2 ≡ 0 → b / 2 % 2 ≡ 1 → count_trailing_zeros 8 b ≡ 1
unfolding count_trailing_zeros
tz_1 b h k = rw (h, k)

pub tz_2 : (b : ℕ) → b % 2 ≡ 0 → b / 2 % 2 ≡ 0 → b / 2 / 2 % 2 ≡ 1 → count_trailing_zeros 8 b ≡ 2
unfolding count_trailing_zeros
tz_2 b h k l = rw (h, k, l)

first : (k x : ℕ) (p q : List ℕ) → get_or (p ++ (le_bytes (k + 1) x ++ q)) (length p) 0 ≡ x % 256
unfolding digits
first k x p q = rw add-one (get_or-append_seam p (x % 256) (le_bytes k (x / 256) ++ q) 0)

-- the one argument for every width
back : (t v x : ℕ) (p q : List ℕ) → t ≤ 2 → v ≤ 65535 → least t ≤ v → x < 256 ^ (t + 1) → count_trailing_zeros 8 (x % 256) ≡ t → x / 2 ^ (t + 1) ≡ v
    → count_at (p ++ (le_bytes (t + 1) x ++ q)) (length p) ≡ found v (length p + t + 1)
unfolding count_at count_by
back t v x p q ht hv hl hx hz hd =
    let s : List ℕ = p ++ (le_bytes (t + 1) x ++ q) in
    let ls : length s ≡ length p + (t + 1 + length q) = simp (length-append, length_digits) in
    simp (
      lt-leb (length s) (length p) (omega arith),
      first t x p q,
      hz,
      le-ltb 2 t ht,
      le-ltb (length s) (length p + t + 1) (omega arith),
      le_at_back (t + 1) x p q hx,
      hd,
      le-ltb v (least t) hl,
      le-ltb 65535 v hv,
    )

counted : (v : ℕ) (p q : List ℕ) → v ≤ 65535 → count_at (p ++ (count_bytes v ++ q)) (length p) ≡ found v (length p + more v + 1)
unfolding count_bytes
counted v p q h =
    split v 128
    (λ l. rw (more_0 v l) (back 0 v ((2 * v + 1) * 1) p q (omega arith) h (omega arith) (omega arith) (tz_0 _ (omega arith)) (omega arith)))
    (λ g. split v 16384
    (λ l. rw (more_1 v g l) (back 1 v ((2 * v + 1) * 2) p q (omega arith) h (omega arith) (omega arith) (tz_1 _ (omega arith) (omega arith)) (omega arith)))
    (λ k. rw (more_2 v k) (back 2 v ((2 * v + 1) * 4) p q (omega arith) h (omega arith) (omega arith) (tz_2 _ (omega arith) (omega arith) (omega arith)) (omega arith))))

pub count_back : (v : ℕ) (p q : List ℕ) → v ≤ 65535 → count_at (p ++ (count_bytes v ++ q)) (length p) ≡ found v (length p + length (count_bytes v))
count_back v p q h = counted v p q h ∙ ap (found v) (omega (arith, length_count v))

-- ---- operations

module _ (t : List ℕ) where
  op_plain : (x : Op) → kind_of t x.code ≡ 0 → op_bytes t x ≡ x.code ∷ []
  unfolding op_bytes valued
  op_plain x h = simp (eq-eqb (kind_of t x.code) 0 h)

  op_valued : (x : Op) → (kind_of t x.code ≡ 0 → ⊥) → op_bytes t x ≡ x.code ∷ le_bytes 8 x.value
  unfolding op_bytes valued
  op_valued x h = simp (ne_eqb (kind_of t x.code) 0 h)

  module _ (p q : List ℕ) (x : Op) (i : ℕ) (ok : Admissible t x) where
    plain_back : kind_of t x.code ≡ 0 → op_at t (p ++ (op_bytes t x ++ q)) (length p) i ≡ found x (length p + length (op_bytes t x))
    unfolding assigned valued
    plain_back z =
        let s : List ℕ = p ++ (x.code ∷ q) in
        let n : length s ≡ length p + suc (length q) = length-append p (x.code ∷ q) in
        rw (op_plain x z, op_guards t s (length p) i)
        (simp (lt-leb (length s) (length p) (omega arith), get_or-append_seam p x.code q 0, lt-ltb x.code 128 ok.code, z)
        (ap (λ (v : ℕ). found (record { code = x.code; value = v }) (length p + 1)) (sym (ok.plain z))))

    valued_back : (kind_of t x.code ≡ 0 → ⊥) → op_at t (p ++ (op_bytes t x ++ q)) (length p) i ≡ found x (length p + length (op_bytes t x))
    unfolding assigned valued
    valued_back z =
        let c = x.code in
        let v = x.value in
        let s : List ℕ = p ++ (c ∷ (le_bytes 8 v ++ q)) in
        let n : length s ≡ length p + suc (8 + length q) = simp (length-append, length_digits) in
        let b : le_at 8 ((p ++ (c ∷ [])) ++ (le_bytes 8 v ++ q)) (length (p ++ (c ∷ []))) ≡ v = le_at_back 8 v (p ++ (c ∷ [])) q (omega (arith, ok.small)) in
        let e : le_at 8 s (length p + 1) ≡ v = rw (append_snoc p c (le_bytes 8 v ++ q), length-append) at b in
        rw (op_valued x z, op_guards t s (length p) i, value_guards t s (length p) i)
        (simp (
          lt-leb (length s) (length p) (omega arith),
          get_or-append_seam p c (le_bytes 8 v ++ q) 0,
          lt-ltb c 128 ok.code,
          lt-ltb (kind_of t c) 3 ok.kind,
          ne_eqb (kind_of t c) 0 z,
          le-ltb (length s) (length p + 9) (omega arith),
          e,
          value_tested t (record { code = c; value = v }) (ap not (ne_eqb (kind_of t c) 0 z)),
          lt-ltb v field ok.small,
          length_digits,
        ))

    pub op_back : op_at t (p ++ (op_bytes t x ++ q)) (length p) i ≡ found x (length p + length (op_bytes t x))
    op_back = split (kind_of t x.code) 1 (λ h. plain_back (omega arith)) (λ h. valued_back (omega arith))

  pub ops_back : (xs : List Op) (p q : List ℕ) (i : ℕ) → All (Admissible t) xs
      → ops_at t (p ++ (ops_bytes t xs ++ q)) (length xs) (length p) i ≡ found xs (length p + length (ops_bytes t xs))
  ops_back xs p q i h = row_back (op_at t) (op_bytes t) (λ (x : Op). x) (Admissible t) (λ x p q i k. op_back p q x i k) xs p q i h ∙ ap (λ (ys : List Op). found ys (length p + length (ops_bytes t xs))) (map_same xs)

-- ---- the batch count

pub batch_count_stands : (k : ℕ) (s : List ℕ) (at : ℕ) → Stands (le_bytes 4 k) s at → k ≤ 16384 → at + length (le_bytes 4 k) + 5 * k ≤ length s → batch_count_at s at ≡ found k (at + length (le_bytes 4 k))
unfolding batch_count_at
batch_count_stands k s at st h room =
    let n : length (le_bytes 4 k) ≡ 4 = length_digits 256 4 k in
    let e : le_at 4 s at ≡ k = here (λ s at. le_at 4 s at ≡ k) (le_bytes 4 k) s at st (λ p q. le_at_back 4 k p q (omega arith)) in
    rw (n, le-ltb (length s) (at + 4) (omega arith), e, le-ltb ((length s - (at + 4)) / 5) k (omega arith), le-ltb 16384 k h)
