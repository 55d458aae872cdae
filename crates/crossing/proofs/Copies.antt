-- Numbers copied out of bytes and into bytes. Assumes nothing.
use mathlib.Core.Path.{◌≡◌, refl, sym, ap, ◌∙◌}
use mathlib.Core.List.{List}
use Prim.Native.Nat.{ℕ, ◌+◌, ◌*◌, ◌/◌, ◌≤◌, ◌<◌}
use native.Mathlib.Nat.{zero-add}
use native.Mathlib.Omega.{arith}
use lib.ListN.{length, get_or, take, drop}
use lib.Seq.{sets, sets-eq, length-sets, take_at}
use Rattle.rules.specs.Lists.{fitted}
use Rattle.rules.specs.Digits.{le_at}
use Rattle.rules.specs.Record.{word_bytes}
use Rattle.rules.proofs.Runs.{zeroed}
use Rattle.rules.proofs.Sizes.{length_words_at, length_words}
use Rattle.rules.proofs.Loads.{word}
use Rattle.crossing.specs.Words.{words_in}

pub length_in : (s : List ℕ) → length (words_in s) ≡ length s / 8
unfolding words_in
length_in s = length_words_at (length s / 8) s 0

pub word_in : (s : List ℕ) (i : ℕ) → i < length s / 8 → get_or (words_in s) i 0 ≡ le_at 8 s (8 * i)
unfolding words_in
word_in s i h = rw (zero-add (8 * i)) at (word (length s / 8) s 0 i h)

-- ---- what is stored

-- what was stored at the front is there
take_stored : (l vs : List ℕ) → length vs ≤ length l → take (length vs) (sets l 0 vs) ≡ vs
take_stored l vs h = ap (take (length vs)) (sets-eq vs l 0 (omega arith)) ∙ take_at vs (drop (0 + length vs) l) (length vs) refl

-- zeros after the bytes that were stored
pub bytes_left : (l ns : List ℕ) → 8 * length ns ≤ length l
    → fitted (length (sets l 0 (word_bytes ns))) (take (8 * length ns) (sets l 0 (word_bytes ns))) ≡ fitted (length l) (word_bytes ns)
bytes_left l ns h =
    let n = length_words ns in
    zeroed l (sets l 0 (word_bytes ns)) (word_bytes ns) (8 * length ns) (length-sets l 0 (word_bytes ns)) (take_stored l (word_bytes ns) (omega arith)) (sym n)
