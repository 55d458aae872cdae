-- Index lookups in a table of bytes: an entry is read, and leads on, or there is none. Assumes nothing.
use mathlib.Core.Path.{◌≡◌, refl, ap, ◌∙◌}
use mathlib.Core.Bool.{Bool, true, false, cond, ◌&&◌}
use mathlib.Core.List.{List}
use mathlib.Core.Option.{Option, none, some}
use Prim.Native.Nat.{ℕ, ◌+◌, ◌-◌, ◌*◌, ◌/◌, ◌%◌, ◌<◌}
use borrow.Author.Tests.{ltb-true}
use lib.ListN.{length, get_or}
use lib.Dec.{leb, ltb, eqb}
use Rattle.rules.specs.Digits.{le_at}
use Rattle.rules.specs.Lookups.{raw_at, padded_at, largest, padded_index, raw_index}
use Rattle.rules.proofs.Operations.{true_right}
use Rattle.prefix.specs.Tables.{padded_by, raw_by}
use Rattle.crossing.specs.Words.{words_in, has_word}
use Rattle.crossing.proofs.Copies.{length_in, word_in}
use Rattle.exports.specs.Replies.{in_whole}

module _ (s : List ℕ) (i : ℕ) where
  pub inside : has_word s i ≡ true → i < length s / 8
  unfolding has_word
  inside h = ltb-true i (length s / 8) (true_right (eqb (length s % 8) 0) (ltb i (length s / 8)) h)

  -- the two definitions differ in a test and in what is found
  in_word : {A : Type 0} (test : Bool) (r : Option A) → in_whole s (cond (ltb i (length (words_in s)) && test) r none) ≡ cond (has_word s i) (cond test r none) none
  unfolding has_word in_whole
  in_word test r = rw (length_in s) (go (eqb (length s % 8) 0) (ltb i (length s / 8)))
    where
      go : (a b : Bool) → cond a (cond (b && test) r none) none ≡ cond (a && b) (cond test r none) none
      go true true = refl
      go true false = refl
      go false b = refl

  by_entry : {A : Type 0} (by : ℕ → Option A) → cond (has_word s i) (by (get_or (words_in s) i 0)) none ≡ cond (has_word s i) (by (le_at 8 s (8 * i))) none
  by_entry {A} by = go (has_word s i) refl
    where
      go : (b : Bool) → has_word s i ≡ b → ◌≡◌ {A = Option A} (cond b (by (get_or (words_in s) i 0)) none) (cond b (by (le_at 8 s (8 * i))) none)
      go true h = ap by (word_in s i (inside h))
      go false h = refl

  pub padded_lem : in_whole s (padded_index (words_in s) (raw_at i)) ≡ cond (has_word s i) (padded_by (le_at 8 s (8 * i)) (raw_at i)) none
  unfolding padded_index
  padded_lem = in_word (leb (i + get_or (words_in s) i 0) largest) (some (padded_at (i + get_or (words_in s) i 0))) ∙ by_entry (λ e. padded_by e (raw_at i))

  pub raw_lem : in_whole s (raw_index (words_in s) (padded_at i)) ≡ cond (has_word s i) (raw_by (le_at 8 s (8 * i)) (padded_at i)) none
  unfolding raw_index
  raw_lem = in_word (leb (get_or (words_in s) i 0) i) (some (raw_at (i - get_or (words_in s) i 0))) ∙ by_entry (λ e. raw_by e (padded_at i))
