-- What a batch records (document 01, "Batching (000)"), a block's operations, and how records lie in a lent run of bytes.
use Rattle.std.specs.Prelude.{◌≡◌, cond, List, [], ◌∷◌, ◌++◌, map, ℕ, zero, suc, ◌+◌, ◌-◌, ◌*◌, ◌/◌, length, get_or, take, drop}
use Rattle.rules.specs.Lists.{fitted, in_row}
use Rattle.rules.specs.Digits.{number, le_bytes, le_at}
use Rattle.rules.specs.Operations.{Op, codes, has_immediate}
use Rattle.rules.specs.Batching.{Group, ops, imm}

-- "A batch records nine starts, eight padding flags, eight group numbers and a group count."
pub record Record : Type 0 where
  pub starts : List ℕ
  pub flags : List ℕ
  pub numbers : List ℕ
  pub count : ℕ

-- so many of each
pub record NineAndEight (r : Record) : Type 0 where
  pub starts : length r.starts ≡ 9
  pub flags : length r.flags ≡ 8
  pub numbers : length r.numbers ≡ 8

-- "Group i is operations start i up to start i+1, counted within the batch": the starts of groups of these sizes, the first at n, and the end
unfoldable pub starts_from : ℕ → List ℕ → List ℕ
starts_from n [] = n ∷ []
starts_from n (k ∷ ks) = n ∷ starts_from (n + k) ks

-- the eight sizes that nine starts say: "each start i+1 minus start i"
unfoldable pub differences : List ℕ → List ℕ
differences [] = []
differences (a ∷ []) = []
differences (a ∷ b ∷ s) = (b - a) ∷ differences (b ∷ s)

-- n operations from a place on
abbrev pub part : ℕ → List Op → ℕ → List Op
part n xs at = take n (drop at xs)

-- the operations of groups of these sizes, from a place on
unfoldable pub cut : List ℕ → List Op → ℕ → List (List Op)
cut [] xs at = []
cut (n ∷ ns) xs at = part n xs at ∷ cut ns xs (at + n)

-- the values of the operations with an immediate, in order
unfoldable pub immediates : List ℕ → List Op → List ℕ
immediates t [] = []
immediates t (x ∷ xs) = cond (has_immediate t x) (x.value ∷ immediates t xs) (immediates t xs)

-- a record by its eight sizes, its eight flags and the numbers of the groups under the count
unfoldable pub record_by : List ℕ → List ℕ → List ℕ → Record
record_by sizes flags numbers = record { starts = starts_from 0 sizes; flags = flags; numbers = fitted 8 numbers; count = length numbers }

-- ---- the record of a batch

unfoldable pub ops_in : Group → List Op
ops_in (ops xs p) = xs
ops_in (imm v) = []

unfoldable pub size_of : Group → ℕ
size_of g = length (ops_in g)

unfoldable pub flag_of : Group → ℕ
flag_of (ops xs p) = cond p 1 0
flag_of (imm v) = 0

-- "A group number is the sum of opcode times 128^position."
unfoldable pub codes_number : List Op → ℕ
codes_number xs = number 128 (codes xs)

-- "An immediate's group number is its value."
unfoldable pub number_of : Group → ℕ
number_of (ops xs p) = codes_number xs
number_of (imm v) = v

-- "Group numbers and flags from the count on are zero; starts after the count repeat the batch's operation total." M-100: "Batches we build still have
-- those bits clear".
unfoldable pub record_of : List Group → Record
record_of gs = record_by (fitted 8 (map size_of gs)) (fitted 8 (map flag_of gs)) (map number_of gs)

-- ---- a block: operations, and the records of its batches

pub record Block : Type 0 where
  pub ops : List Op
  pub records : List Record

-- the operations of a batch, and of all: "All batches' padded operations lie one after another."
abbrev pub ops_of : List Group → List Op
ops_of = in_row ops_in

abbrev pub padded_of : List (List Group) → List Op
padded_of = in_row ops_of

unfoldable pub block_of : List (List Group) → Block
block_of bs = record { ops = padded_of bs; records = map record_of bs }

unfoldable pub no_block : Block
no_block = record { ops = []; records = [] }

-- ---- records in a lent run of bytes: nine bytes of starts, eight of flags, eight numbers of eight bytes each, little-endian, and a byte for the count

abbrev pub record_size : ℕ
record_size = 82

-- where in a record its flags, its numbers and its count begin
abbrev pub flags_place : ℕ
flags_place = 9

abbrev pub numbers_place : ℕ
numbers_place = 17

abbrev pub count_place : ℕ
count_place = 81

abbrev pub word_bytes : List ℕ → List ℕ
word_bytes = in_row (le_bytes 8)

unfoldable pub record_bytes : Record → List ℕ
record_bytes r = r.starts ++ (r.flags ++ (word_bytes r.numbers ++ (r.count ∷ [])))

abbrev pub records_bytes : List Record → List ℕ
records_bytes = in_row record_bytes

-- k bytes of s from a place on, and k numbers of eight bytes
unfoldable pub bytes_at : ℕ → List ℕ → ℕ → List ℕ
bytes_at zero s at = []
bytes_at (suc k) s at = get_or s at 0 ∷ bytes_at k s (at + 1)

unfoldable pub words_at : ℕ → List ℕ → ℕ → List ℕ
words_at zero s at = []
words_at (suc k) s at = le_at 8 s at ∷ words_at k s (at + 8)

-- the b-th record of a run
unfoldable pub record_at : List ℕ → ℕ → Record
record_at s b =
    record {
      starts = bytes_at 9 s (record_size * b);
      flags = bytes_at 8 s (record_size * b + flags_place);
      numbers = words_at 8 s (record_size * b + numbers_place);
      count = get_or s (record_size * b + count_place) 0;
    }

-- k records from the b-th on, and all whole records of a run
unfoldable pub records_from : ℕ → List ℕ → ℕ → List Record
records_from zero s b = []
records_from (suc k) s b = record_at s b ∷ records_from k s (b + 1)

unfoldable pub records_in : List ℕ → List Record
records_in s = records_from (length s / record_size) s 0
