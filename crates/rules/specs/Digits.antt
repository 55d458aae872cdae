-- Numbers by their digits, lowest first: bytes (base 256), a group's opcodes (128), nibbles (16), flags (2).
use Rattle.std.specs.Prelude.{List, [], ◌∷◌, ℕ, zero, suc, ◌+◌, ◌*◌, ◌/◌, ◌%◌, get_or}

-- the k lowest digits of v
unfoldable pub digits : ℕ → ℕ → ℕ → List ℕ
digits b zero v = []
digits b (suc k) v = v % b ∷ digits b k (v / b)

-- the number that has these digits: the sum of digit times b^position
unfoldable pub number : ℕ → List ℕ → ℕ
number b [] = 0
number b (d ∷ ds) = d + b * number b ds

-- "little-endian": v as k bytes, and the k bytes of s from a place on as a number
abbrev pub le_bytes : ℕ → ℕ → List ℕ
le_bytes k v = digits 256 k v

unfoldable pub le_at : ℕ → List ℕ → ℕ → ℕ
le_at zero s at = 0
le_at (suc k) s at = get_or s at 0 + 256 * le_at k s (at + 1)
