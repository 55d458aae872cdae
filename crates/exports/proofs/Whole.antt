-- Inputs that cross as bytes: refused where the numbers are not whole or too many, and otherwise the numbers that were copied. Assumes nothing.
use mathlib.Core.Path.{◌≡◌, refl, sym, ◌∙◌}
use mathlib.Core.Bool.{Bool, true, false, not, ◌&&◌, ◌||◌}
use mathlib.Core.List.{List}
use Prim.Native.Nat.{ℕ, ◌/◌, ◌%◌, ◌≤◌, ◌<◌}
use native.Mathlib.Omega.{arith}
use borrow.Author.Tests.{lt-leb, eqb-true, leb-true, leb-false}
use lib.ListN.{length, take}
use lib.Dec.{leb, ltb, eqb}
use lib.Seq.{take_all}
use Rattle.rules.specs.Answer.{Answer, refused, refuse}
use Rattle.rules.specs.Refusals.{over_limit₃}
use Rattle.rules.specs.Functions.{arena, within, encoded}
use Rattle.rules.proofs.Operations.{true_left, true_right}
use Rattle.crossing.specs.Words.{words_in, few_words}
use Rattle.crossing.proofs.Copies.{length_in}
use Rattle.exports.specs.Replies.{whole_words}
use Rattle.rules.specs.Record.{record_size}

-- the limit on operations binds the values too
outside : (cs vs rs : List ℕ) → 65535 < length vs → within (arena cs vs rs) ≡ false
unfolding within
outside cs vs rs h = go (eqb (length cs) (length vs)) refl
  where
    go : (b : Bool) → eqb (length cs) (length vs) ≡ b → b && (leb (length cs) 65535 && (eqb (length rs % record_size) 0 && leb (length rs / record_size) 16384)) ≡ false
    go true e = rw (lt-leb (length cs) 65535 (omega (arith, eqb-true (length cs) (length vs) e)))
    go false e = refl

module _ (s : List ℕ) where
  pub few : few_words s ≡ true → length s / 8 ≤ 65536
  unfolding few_words
  few h = leb-true (length s / 8) 65536 (true_right (eqb (length s % 8) 0) (leb (length s / 8) 65536) h)

  pub whole : {A : Type 0} (r : Answer A) → few_words s ≡ true → whole_words s r ≡ r
  unfolding few_words whole_words
  whole r h = rw (true_left (eqb (length s % 8) 0) (leb (length s / 8) 65536) h)

  -- where too many numbers are refused with 3 anyway
  pub broken : {A : Type 0} (over : Bool) (r : Answer A) → (65536 < length (words_in s) → over ≡ true) → few_words s ≡ false → whole_words s (refuse over 3 0 r) ≡ refused over_limit₃ 0
  unfolding few_words whole_words
  broken {A} over r f h = go (eqb (length s % 8) 0) (leb (length s / 8) 65536) refl h
    where
      go : (e l : Bool) → leb (length s / 8) 65536 ≡ l → (e && l) ≡ false → ◌≡◌ {A = Answer A} (refuse (not e) 3 0 (refuse over 3 0 r)) (refused over_limit₃ 0)
      go false l k h = refl
      go true l k h = rw (f (omega (arith, length_in s, leb-false (length s / 8) 65536 (k ∙ h))))

  module _ (cs rs : List ℕ) (h : few_words s ≡ false) where
    pub encoded_broken : (w : ℕ) (t : List ℕ) (size at : ℕ) → whole_words s (encoded w t (arena cs (words_in s) rs) size at) ≡ refused over_limit₃ 0
    unfolding encoded
    encoded_broken w t size at = broken (not (within (arena cs (words_in s) rs)) || ltb 1048576 size) _ (λ l. rw (outside cs (words_in s) rs (omega arith))) h

    -- the checks and the tables begin so
    pub checked_broken : {A : Type 0} (r : Answer A) → whole_words s (refuse (not (within (arena cs (words_in s) rs))) 3 0 r) ≡ refused over_limit₃ 0
    checked_broken r = broken (not (within (arena cs (words_in s) rs))) r (λ l. rw (outside cs (words_in s) rs (omega arith))) h

  -- so what is so of an answer, and of 3 where it is 3, is so of both
  pub either : {A : Type 0} (P : Answer A → Type 0) (r : Answer A) → (few_words s ≡ true → P r) → (few_words s ≡ false → whole_words s r ≡ refused over_limit₃ 0) → (few_words s ≡ false → P (refused over_limit₃ 0)) → P (whole_words s r)
  either P r t e f = go (few_words s) refl
    where
      go : (b : Bool) → few_words s ≡ b → P (whole_words s r)
      go true h = rw (whole r h) (t h)
      go false h = rw (e h) (f h)
