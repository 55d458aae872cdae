-- Bytes and words read from a run and words written to one: one element, and the loops along them. Assumes nothing.
use mathlib.Core.Path.{◌≡◌, sym, ap, ap₂, ◌∙◌}
use mathlib.Core.List.{List}
use Prim.Native.Nat.{ℕ, suc, ◌+◌, ◌-◌, ◌*◌, ◌≤◌, ◌<◌, zero}
use native.Mathlib.Omega.{arith}
use lib.ListN.{length, get_or, set, drop, drop_of_length-le}
use lib.Seq.{sets, drop-cons}
use Rattle.rules.specs.Digits.{le_at, le_bytes}
use Rattle.rules.specs.Record.{bytes_at, words_at, word_bytes}
use Rattle.rules.proofs.Digits.{length_le_bytes, sets_append}
use native.Mathlib.Numerals.{add-one}
use native.Mathlib.Nat.{add-zero}
use Rattle.rules.specs.Lists.{in_row}

-- ---- one element

-- the i-th byte, and the i-th word
pub byte : (k : ℕ) (s : List ℕ) (at i : ℕ) → i < k → get_or (bytes_at k s at) i 0 ≡ get_or s (at + i) 0
unfolding bytes_at
byte zero s at i h = absurd (omega arith)
byte (suc k) s at zero h = rw (add-zero at)
byte (suc k) s at (suc i) h = byte k s (at + 1) i (omega arith) ∙ ap (λ (n : ℕ). get_or s n 0) (omega arith)

pub word : (k : ℕ) (s : List ℕ) (at i : ℕ) → i < k → get_or (words_at k s at) i 0 ≡ le_at 8 s (at + 8 * i)
unfolding words_at
word zero s at i h = absurd (omega arith)
word (suc k) s at zero h = rw (add-zero at)
word (suc k) s at (suc i) h = word k s (at + 8) i (omega arith) ∙ ap (le_at 8 s) (omega arith)

-- ---- loops that read

pub words_turn : (d s : List ℕ) (n at i : ℕ) → i < n → sets (set d i (le_at 8 s (at + 8 * i))) (i + 1) (words_at (n - (i + 1)) s (at + 8 * (i + 1))) ≡ sets d i (words_at (n - i) s (at + 8 * i))
unfolding words_at
words_turn d s n at i h =
    let e : n - i ≡ suc (n - (i + 1)) = omega arith in
    let f : i + 1 ≡ suc i = omega arith in
    let g : at + 8 * (i + 1) ≡ at + 8 * i + 8 = omega arith in
    ap₂ (λ (j k : ℕ). sets (set d i (le_at 8 s (at + 8 * i))) j (words_at (n - (i + 1)) s k)) f g ∙ sym (ap (λ (k : ℕ). sets d i (words_at k s (at + 8 * i))) e)

pub words_end : (d s : List ℕ) (n i k j : ℕ) → n ≤ i → sets d k (words_at (n - i) s j) ≡ d
unfolding words_at
words_end d s n i k j h = let e : n - i ≡ 0 = omega arith in rw e

-- ---- the loop that writes words

module _ (ns : List ℕ) (i : ℕ) where
  pub stored_turn : (l : List ℕ) (at : ℕ) → i < length ns
      → sets (sets l (at + 8 * i) (le_bytes 8 (get_or ns i 0))) (at + 8 * (i + 1)) (word_bytes (drop (i + 1) ns)) ≡ sets l (at + 8 * i) (word_bytes (drop i ns))
  unfolding in_row
  stored_turn l at h =
      let e : at + 8 * (i + 1) ≡ at + 8 * i + length (le_bytes 8 (get_or ns i 0)) = omega (arith, length_le_bytes 8 (get_or ns i 0)) in
      rw (drop-cons ns i 0 h, e, add-one i) (sym (sets_append l (at + 8 * i) (le_bytes 8 (get_or ns i 0)) (word_bytes (drop (suc i) ns))))

  pub stored_end : (l : List ℕ) (at : ℕ) → length ns ≤ i → sets l at (word_bytes (drop i ns)) ≡ l
  unfolding in_row
  stored_end l at h = rw (drop_of_length-le ns {i = i} h)
