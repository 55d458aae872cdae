-- How long the parts of a block are. Assumes nothing.
use mathlib.Core.Path.{◌≡◌, refl, ap, ◌∙◌}
use mathlib.Core.Bool.{Bool, false}
use mathlib.Core.List.{List, [], ◌∷◌}
use Prim.Native.Nat.{ℕ, zero, suc, ◌+◌, ◌*◌, ◌/◌, ◌^◌, ◌≤◌, ◌<◌}
use native.Mathlib.Omega.{arith}
use borrow.Author.Tests.{lt-ltb, le-ltb}
use lib.ListN.{length, replicate, length-append, length-map, length-replicate}
use lib.Dec.{eqb}
use Rattle.rules.specs.Digits.{number, le_bytes}
use Rattle.rules.specs.Operations.{Op, codes, values}
use Rattle.rules.specs.Record.{Record, starts_from, differences, record_size, word_bytes, bytes_at, words_at, records_from, records_in}
use Rattle.rules.specs.Lookups.{marks_in}
use Rattle.rules.specs.Bytes.{more, count_bytes, nibble_bytes, flag_bytes}
use Rattle.rules.proofs.Digits.{length_le_bytes}
use Rattle.rules.specs.Lists.{in_row}

pub length_codes : (xs : List Op) → length (codes xs) ≡ length xs
unfolding codes
length_codes xs = length-map xs (λ (x : Op). x.code)

pub length_values : (xs : List Op) → length (values xs) ≡ length xs
unfolding values
length_values xs = length-map xs (λ (x : Op). x.value)

-- ---- records

pub length_starts : (n : ℕ) (ks : List ℕ) → length (starts_from n ks) ≡ suc (length ks)
unfolding starts_from
length_starts n [] = refl
length_starts n (k ∷ ks) = ap suc (length_starts (n + k) ks)

pub length_words : (ns : List ℕ) → length (word_bytes ns) ≡ 8 * length ns
unfolding in_row
length_words [] = refl
length_words (n ∷ ns) = length-append (le_bytes 8 n) (word_bytes ns) ∙ omega (arith, length_le_bytes 8 n, length_words ns)

pub length_bytes_at : (k : ℕ) (s : List ℕ) (at : ℕ) → length (bytes_at k s at) ≡ k
unfolding bytes_at
length_bytes_at zero s at = refl
length_bytes_at (suc k) s at = ap suc (length_bytes_at k s (at + 1))

pub length_words_at : (k : ℕ) (s : List ℕ) (at : ℕ) → length (words_at k s at) ≡ k
unfolding words_at
length_words_at zero s at = refl
length_words_at (suc k) s at = ap suc (length_words_at k s (at + 8))

length_from : (k : ℕ) (s : List ℕ) (b : ℕ) → length (records_from k s b) ≡ k
unfolding records_from
length_from zero s b = refl
length_from (suc k) s b = ap suc (length_from k s (b + 1))

pub length_records : (rs : List ℕ) → length (records_in rs) ≡ length rs / record_size
unfolding records_in
length_records rs = length_from (length rs / record_size) rs 0

-- ---- the items of a block's bytes

pub more_0 : (v : ℕ) → v < 128 → more v ≡ 0
unfolding more
more_0 v h = simp (lt-ltb v 128 h)

pub more_1 : (v : ℕ) → 128 ≤ v → v < 16384 → more v ≡ 1
unfolding more
more_1 v l h = simp (le-ltb v 128 l, lt-ltb v 16384 h)

pub more_2 : (v : ℕ) → 16384 ≤ v → more v ≡ 2
unfolding more
more_2 v l = simp (le-ltb v 128 (omega arith), le-ltb v 16384 l)

pub length_count : (v : ℕ) → length (count_bytes v) ≡ more v + 1
unfolding count_bytes
length_count v = length_le_bytes (more v + 1) ((2 * v + 1) * 2 ^ more v)

pub length_nibbles : (rs : List Record) → length (nibble_bytes rs) ≡ 4 * length rs
unfolding in_row
length_nibbles [] = refl
length_nibbles (r ∷ rs) =
    let v = number 16 (differences r.starts) in
    length-append (le_bytes 4 v) (nibble_bytes rs) ∙ omega (arith, length_le_bytes 4 v, length_nibbles rs)

pub length_flags : (rs : List Record) → length (flag_bytes rs) ≡ length rs
unfolding in_row
length_flags [] = refl
length_flags (r ∷ rs) = ap suc (length_flags rs)

-- ---- marks: one for each operation of a group

pub marks_in_lem : (n f : ℕ) → length (marks_in n f) ≡ n
unfolding marks_in
marks_in_lem zero f = refl
marks_in_lem (suc n) f = omega (arith, length-append (replicate n false) (eqb f 1 ∷ []), length-replicate {A = Bool} n false)
