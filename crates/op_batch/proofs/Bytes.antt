-- Laws of bytes and words read from a run, and of the tests over a record's flags and starts. Assumes nothing.
use Rattle.std.proofs.Common.{◌≡◌, ℕ, suc, ◌+◌, ◌-◌, ◌*◌, ◌%◌, ◌<◌, ◌≤◌, Bool, true, false, ◌&&◌, leb, List, [], ◌∷◌, length, get_or, take, drop, fold, sym, refl, ap, ◌∙◌, arith, ext_get_or, length-drop, length-take-le, get_or-take, get_or-drop, le-leb, leb-true}
use borrow.Author.Tests.{lt-leb}
use Rattle.std.specs.declared.slice.Windows.{Windows}
use Rattle.std.specs.Slice.Iter.{windows_rest, windows_size, windows_steps}
use Rattle.std.proofs.lemmas.Iterator.{YieldsList}
use Rattle.std.proofs.lemmas.Iterator.Splits.{YieldsList-from_shown_while}
use Rattle.rules.specs.Lists.{every}
use Rattle.rules.specs.Record.{bytes_at}
use Rattle.rules.specs.Checks.{starts_right}
use Rattle.rules.proofs.Digits.{split}
use Rattle.rules.proofs.Operations.{none_left}
use Rattle.rules.proofs.Sizes.{length_bytes_at}
use Rattle.rules.proofs.Loads.{byte}

-- a part of a run, byte by byte
pub part_bytes : (s : List ℕ) (at end n : ℕ) → at + n ≡ end → end ≤ length s → take (end - at) (drop at s) ≡ bytes_at n s at
part_bytes s at end n e h =
    let d : end - at ≡ n = omega arith in
    let l : length (take n (drop at s)) ≡ n = length-take-le n (drop at s) (omega (arith, length-drop at s)) in
    rw d
    (ext_get_or 0 (take n (drop at s)) (bytes_at n s at) (l ∙ sym (length_bytes_at n s at)) (λ i k. let b : i < n = omega (arith, l) in get_or-take n (drop at s) i 0 b ∙ get_or-drop at s i 0 ∙ sym (byte n s at i b)))

-- ---- tests that go on whatever they find

join : (a b c : Bool) → ((a && b) && c) ≡ (a && (b && c))
join true b c = refl
join false b c = refl

-- ---- flags

pub fold_every : (test : ℕ → Bool) (ok : Bool) (xs : List ℕ) → fold (λ (a : Bool) (x : ℕ). a && test x) ok xs ≡ (ok && every test xs)
unfolding every
fold_every test ok [] = none_left ok
fold_every test ok (x ∷ xs) = fold_every test (ok && test x) xs ∙ join ok (test x) (every test xs)

-- ---- starts, one pair after the other

-- a difference that wraps, where the lower start is not near the top
near : (a b : ℕ) → a ≤ 63 → b < 256 → leb ((b + (256 - a)) % 256) 9 ≡ (leb a b && leb b (a + 9))
near a b h k =
    split b a
    (λ l. rw (lt-leb a b l, lt-leb ((b + (256 - a)) % 256) 9 (omega arith)))
    (λ l.
    split (a + 9) b
    (λ m. rw (le-leb a b l, lt-leb b (a + 9) m, lt-leb ((b + (256 - a)) % 256) 9 (omega arith)))
    (λ m. rw (le-leb a b l, le-leb b (a + 9) m, le-leb ((b + (256 - a)) % 256) 9 (omega arith))))

abbrev rises : ℕ → ℕ → Bool
rises a b = leb ((b + (256 - a)) % 256) 9

-- whether the second of a pair is the first or rises by 9 at most, where what came before was right
abbrev pub pair_right : Bool → List ℕ → Bool
pair_right ok pair = ok && rises (get_or pair 0 0) (get_or pair 1 0)

pub pairs : List ℕ → List (List ℕ)
pairs [] = []
pairs (a ∷ []) = []
pairs (a ∷ b ∷ s) = (a ∷ b ∷ []) ∷ pairs (b ∷ s)

-- either something was not right before, or the starts have risen by 9 at most, n times
pub fold_pairs : (s : List ℕ) (n : ℕ) (ok : Bool) → n + length s ≤ 9 → ((k : ℕ) → get_or s k 0 < 256) → (ok ≡ true → get_or s 0 0 ≤ 9 * n) → fold pair_right ok (pairs s) ≡ (ok && starts_right s)
unfolding starts_right pairs
fold_pairs [] n ok l h low = none_left ok
fold_pairs (a ∷ []) n ok l h low = none_left ok
fold_pairs (a ∷ b ∷ s) n true l h low =
    let e = near a b (omega (arith, low refl)) (h 1) in
    let up : rises a b ≡ true → b ≤ 9 * (n + 1) = λ t. omega (arith, low refl, h 1, leb-true ((b + (256 - a)) % 256) 9 t) in
    fold_pairs (b ∷ s) (n + 1) (rises a b) (omega arith) (λ k. h (suc k)) up
    ∙ ap (λ (x : Bool). x && starts_right (b ∷ s)) e
    ∙ join (leb a b) (leb b (a + 9)) (starts_right (b ∷ s))
fold_pairs (a ∷ b ∷ s) n false l h low = fold_pairs (b ∷ s) (n + 1) false (omega arith) (λ k. h (suc k)) (λ t. cc)

-- ---- what `windows(2)` gives

no_pair : (xs : List ℕ) → length xs < 2 → length (pairs xs) ≡ 0
unfolding pairs
no_pair [] h = refl
no_pair (a ∷ []) h = refl
no_pair (a ∷ b ∷ s) h = absurd (omega arith)

one_pair : (xs : List ℕ) → 2 ≤ length xs → pairs xs ≡ take 2 xs ∷ pairs (drop 1 xs)
unfolding pairs
one_pair [] h = absurd (omega arith)
one_pair (a ∷ []) h = absurd (omega arith)
one_pair (a ∷ b ∷ s) h = refl

pub YieldsList-from_pairs : {s : Windows ℕ} (xs : List ℕ) → windows_rest s ≡ xs → windows_size s ≡ 2 → YieldsList windows_steps (λ x. x.now) s (pairs xs)
YieldsList-from_pairs {s} xs e n =
    rw (sym e)
    (YieldsList-from_shown_while windows_steps (λ x. x.now) (λ t. pairs (windows_rest t)) (λ t. windows_size t ≡ 2)
    (λ s t p h. no_pair (windows_rest s) (omega (arith, h.1.0, p)))
    (λ s x t p h. (h.0 ∙ p, one_pair (windows_rest s) (omega (arith, h.1.0, p)) ∙ rw (rw p at h.1.1, h.1.2)))
    s n)

-- ---- five tests, each of which looks at the next where those before hold

pub all_tests : (a b c d e v₁ v₂ v₃ : Bool) → v₁ ≡ (a && b) → v₂ ≡ (v₁ && c) → v₃ ≡ (v₂ && d) → (a && (b && (c && (d && e)))) ≡ (v₃ && e)
all_tests a b c d e v₁ v₂ v₃ x y z = rw (z, y, x) (sym (join (a && b && c) d e ∙ join (a && b) c (d && e) ∙ join a b (c && (d && e))))
