-- Runs of 64-bit numbers as bytes: eight to a number, little-endian.
use Rattle.std.specs.Prelude.{Bool, ◌&&◌, List, ℕ, ◌/◌, ◌%◌, length, leb, ltb, eqb}
use Rattle.rules.specs.Record.{words_at}

-- the numbers that lie in a run of bytes; bytes after the last whole one are left out
unfoldable pub words_in : List ℕ → List ℕ
words_in s = words_at (length s / 8) s 0

-- whether the bytes are whole numbers
abbrev pub whole : List ℕ → Bool
whole s = eqb (length s % 8) 0

-- whole numbers, and few enough for the work space; a block has fewer values
unfoldable pub few_words : List ℕ → Bool
few_words s = whole s && leb (length s / 8) 65536

-- whole numbers, and an i-th among them
unfoldable pub has_word : List ℕ → ℕ → Bool
has_word s i = whole s && ltb i (length s / 8)
