-- The bytes of a number, as a run takes and gives them. Assumes nothing.
use mathlib.Core.Path.{◌≡◌, refl, sym, ap, ◌∙◌}
use mathlib.Core.List.{List, [], ◌++◌, append_assoc}
use Prim.Native.Nat.{ℕ, zero, suc, ◌+◌, ◌-◌, ◌/◌, ◌^◌, ◌≤◌, ◌<◌}
use native.Mathlib.Nat.{add-zero, zero-add, pow-suc, div-div-eq-div-mul}
use native.Mathlib.Omega.{arith}
use lib.ListN.{length, take, drop, get_or, replicate}
use lib.Seq.{sets, length-sets}
use borrow.Rule.Slice.PartMut.{put_mid}
use Rattle.std.specs.Int.{from_le_bytes, to_le_bytes, w64}
use Rattle.std.proofs.lemmas.List.{take_at, get_or-take, get_or-drop, get_or-append-add, get_or_append_left, get_or-replicate, length-take-le, length-drop, drop-drop}
use Rattle.std.proofs.lemmas.List.Edits.{sets-eq}
use Rattle.rules.specs.Digits.{digits, le_at, le_bytes}
use Rattle.rules.proofs.Digits.{split, le_at_split, le_bytes_split, length_le_bytes, sets_append}
use Rattle.word.proofs.Copies.{past}

-- ---- written

eight : (v : ℕ) → to_le_bytes w64 v ≡ le_bytes 8 v
unfolding digits
eight v = simp div-div-eq-div-mul

first_bytes : (n v : ℕ) → n ≤ 8 → take n (to_le_bytes w64 v) ≡ le_bytes n v
first_bytes n v h =
    let e : n + (8 - n) ≡ 8 = omega arith in
    ap (λ (l : List ℕ). take n l) (eight v ∙ sym (ap (λ (k : ℕ). le_bytes k v) e) ∙ le_bytes_split n (8 - n) v) ∙ take_at (le_bytes n v) _ n (length_le_bytes n v)

-- a part of a run with the first bytes of a number written over it
pub written : (out ys : List ℕ) (at n v : ℕ) → n ≤ 8 → at + n ≤ length out → ys ≡ take n (to_le_bytes w64 v) → put_mid at (at + n - at) out ys ≡ sets out at (le_bytes n v)
written out ys at n v h k e =
    let b : List ℕ = le_bytes n v in
    let m : at + n - at ≡ n = omega arith in
    let l : length b ≡ n = length_le_bytes n v in
    let d : drop n (drop at out) ≡ drop (at + length b) out = rw l (drop-drop n at out) in
    let p : put_mid at n out b ≡ take at out ++ (b ++ drop (at + length b) out) = ap (λ (r : List ℕ). take at out ++ (b ++ r)) d in
    rw (m, e ∙ first_bytes n v h) (p ∙ sym (sets-eq b out at (omega arith) ∙ append_assoc (take at out) b (drop (at + length b) out)))

-- the first n bytes of a number, where no more of it fits
pub fewer : (out : List ℕ) (at n v : ℕ) → n ≤ 8 → (n < 8 → length out ≤ at + n) → sets out at (le_bytes n v) ≡ sets out at (le_bytes 8 v)
unfolding digits
fewer out at n v h k =
    let e : n + (8 - n) ≡ 8 = omega arith in
    let m : at + length (le_bytes n v) ≡ at + n = ap (λ (j : ℕ). at + j) (length_le_bytes n v) in
    let rest : sets (sets out at (le_bytes n v)) (at + n) (le_bytes (8 - n) (v / 256 ^ n)) ≡ sets out at (le_bytes n v) =
    split n 8 (λ few. past (sets out at (le_bytes n v)) (le_bytes (8 - n) (v / 256 ^ n)) (at + n) (omega (arith, k few, length-sets out at (le_bytes n v)))) (λ all. let z : 8 - n ≡ 0 = omega arith in rw z) in
    sym rest ∙ sym (ap (λ (i : ℕ). sets (sets out at (le_bytes n v)) i (le_bytes (8 - n) (v / 256 ^ n))) m) ∙ sym (sets_append out at (le_bytes n v) (le_bytes (8 - n) (v / 256 ^ n))) ∙ ap (λ (r : List ℕ). sets out at r) (sym (le_bytes_split n (8 - n) v) ∙ ap (λ (j : ℕ). le_bytes j v) e)

-- ---- read

same_bytes : (k : ℕ) (s t : List ℕ) (i j : ℕ) → ((m : ℕ) → m < k → get_or s (i + m) 0 ≡ get_or t (j + m) 0) → le_at k s i ≡ le_at k t j
unfolding le_at
same_bytes zero s t i j h = refl
same_bytes (suc k) s t i j h =
    let a : get_or s i 0 ≡ get_or t j 0 = simp add-zero at (h 0 (omega arith)) in
    let b : le_at k s (i + 1) ≡ le_at k t (j + 1) = same_bytes k s t (i + 1) (j + 1) (λ m lt. let p : i + 1 + m ≡ i + (m + 1) = omega arith in let q : j + 1 + m ≡ j + (m + 1) = omega arith in rw (p, q) (h (m + 1) (omega arith))) in
    omega arith

no_bytes : (k j : ℕ) → le_at k [] j ≡ 0
unfolding le_at
no_bytes zero j = refl
no_bytes (suc k) j = omega (arith, no_bytes k (j + 1))

pub few_bytes : (k : ℕ) (s : List ℕ) (i : ℕ) → ((m : ℕ) → get_or s m 0 < 256) → le_at k s i < 256 ^ k
unfolding le_at
few_bytes zero s i h = omega arith
few_bytes (suc k) s i h = let b = few_bytes k s (i + 1) h in rw pow-suc (omega (arith, h i))

whole : (s : List ℕ) → from_le_bytes w64 s ≡ le_at 8 s 0
unfolding le_at
whole s = omega arith

-- eight bytes, of which the first n are those of a run from a place on, and the others 0
module _ (s ys : List ℕ) (at n : ℕ) (h : n ≤ 8) (e : ys ≡ take n (drop at s)) (long : length ys ≡ n) where
  front : (m : ℕ) → m < n → get_or (ys ++ drop n (replicate 8 0)) (0 + m) 0 ≡ get_or s (at + m) 0
  front m lt =
      let k : m < length ys = omega arith in
      rw (zero-add, get_or_append_left ys (drop n (replicate 8 0)) 0 m k, e, get_or-take n (drop at s) m 0 lt) (get_or-drop at s m 0)

  rest : (m : ℕ) → m < 8 - n → get_or (ys ++ drop n (replicate 8 0)) (0 + n + m) 0 ≡ 0
  rest m lt =
      let k : 0 + n + m ≡ length ys + m = omega arith in
      rw (k, get_or-append-add ys (drop n (replicate 8 0)) m 0) (get_or-drop n (replicate 8 0) m 0 ∙ get_or-replicate 8 (n + m) 0 0 (omega arith))

pub taken : (s ys : List ℕ) (at n : ℕ) → n ≤ 8 → at + n ≤ length s → ys ≡ take (at + n - at) (drop at s) → from_le_bytes w64 (ys ++ drop n (replicate 8 0)) ≡ le_at n s at
taken s ys at n h k e =
    let l : List ℕ = ys ++ drop n (replicate 8 0) in
    let f : ys ≡ take n (drop at s) = e ∙ ap (λ (j : ℕ). take j (drop at s)) (omega arith) in
    let long : length ys ≡ n = ap length f ∙ length-take-le n (drop at s) (omega (arith, length-drop at s)) in
    let all : n + (8 - n) ≡ 8 = omega arith in
    let a : le_at n l 0 ≡ le_at n s at = same_bytes n l s 0 at (front s ys at n h f long) in
    let b : le_at (8 - n) l (0 + n) ≡ 0 = same_bytes (8 - n) l [] (0 + n) 0 (rest s ys at n h f long) ∙ no_bytes (8 - n) 0 in
    whole l ∙ ap (λ (j : ℕ). le_at j l 0) (sym all) ∙ le_at_split n (8 - n) l 0 ∙ rw (a, b) (omega arith)
