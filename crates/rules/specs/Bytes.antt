-- Document 01, "Block bytes (001)", items 1 to 5, each read at a place of a list of bytes and written.
use Rattle.std.specs.Prelude.{Bool, cond, not, List, [], ◌∷◌, ℕ, zero, suc, ◌+◌, ◌-◌, ◌*◌, ◌/◌, ◌^◌, length, get_or, drop, leb, ltb}
use Rattle.std.specs.Int.Count.{count_trailing_zeros}
use Rattle.rules.specs.Lists.{every, in_row}
use Rattle.rules.specs.Digits.{digits, number, le_bytes, le_at}
use Rattle.rules.specs.Answer.{Read, found, refuse, refuse_first, row}
use Rattle.rules.specs.Refusals.{cut_short₂, over_limit₃, too_many_batches₅, bad_nibble₆}
use Rattle.rules.specs.Operations.{Op, valued, code_fault, value_fault}
use Rattle.rules.specs.Record.{Record, differences}

-- ---- 1. "Count of padded operations."

-- the least number whose shortest form has t + 1 bytes
abbrev pub least : ℕ → ℕ
least zero = 0
least (suc t) = 128 ^ suc t

-- "t zeros, t+1 bytes, little-endian number shifted right by t+1. Only t of 0, 1, 2 and the shortest form are taken; t over 2 gives 3 at once, before any 2."
-- The limit is 65,535 padded operations.
unfoldable pub count_by : ℕ → List ℕ → ℕ → Read ℕ
count_by t s at =
    refuse (ltb 2 t) over_limit₃ 0
    (refuse (ltb (length s) (at + t + 1)) cut_short₂ at
    (let v = le_at (t + 1) s at / 2 ^ (t + 1) in
    refuse (ltb v (least t)) over_limit₃ 0
    (refuse (ltb 65535 v) over_limit₃ 0
    (found v (at + t + 1)))))

-- "the trailing zero bits of its first byte give the length"
unfoldable pub count_at : List ℕ → ℕ → Read ℕ
count_at s at = refuse (leb (length s) at) cut_short₂ at (count_by (count_trailing_zeros 8 (get_or s at 0)) s at)

-- how many bytes besides the first v takes
unfoldable pub more : ℕ → ℕ
more v = cond (ltb v 128) 0 (cond (ltb v 16384) 1 2)

-- v above a 1 bit above as many zero bits: shifted right past these, it is v again
unfoldable pub count_bytes : ℕ → List ℕ
count_bytes v = le_bytes (more v + 1) ((2 * v + 1) * 2 ^ more v)

-- ---- 2. "Each operation: opcode byte; for kinds 1 and 2, the value as 8 bytes, little-endian."

unfoldable pub value_at : List ℕ → List ℕ → ℕ → ℕ → ℕ → Read Op
value_at t s at i c =
    refuse (ltb (length s) (at + 9)) cut_short₂ at
    (let x : Op = record { code = c; value = le_at 8 s (at + 1) } in
    refuse_first i (value_fault t x ∷ [])
    (found x (at + 9)))

-- the operation at a place, the i-th: "unassigned opcode 4 before missing value bytes 2". M-101: "Opcode is looked at first, then missing bytes (2), then 17."
unfoldable pub op_at : List ℕ → List ℕ → ℕ → ℕ → Read Op
op_at t s at i =
    refuse (leb (length s) at) cut_short₂ at
    (let c = get_or s at 0 in
    refuse_first i (code_fault t c ∷ [])
    (cond (valued t c) (value_at t s at i c) (found (record { code = c; value = 0 }) (at + 1))))

-- n operations from a place on, the first of them the i-th
abbrev pub ops_at : List ℕ → List ℕ → ℕ → ℕ → ℕ → Read (List Op)
ops_at t s = row (op_at t s)

unfoldable pub op_bytes : List ℕ → Op → List ℕ
op_bytes t x = x.code ∷ cond (valued t x.code) (le_bytes 8 x.value) []

abbrev pub ops_bytes : List ℕ → List Op → List ℕ
ops_bytes t = in_row (op_bytes t)

-- ---- 3. "Batch count, 4 bytes, little-endian."

-- 5, "batch count over (bytes left / 5), rounded down", before the limit of 16,384 batches
unfoldable pub batch_count_at : List ℕ → ℕ → Read ℕ
batch_count_at s at =
    refuse (ltb (length s) (at + 4)) cut_short₂ at
    (let k = le_at 4 s at in
    refuse (ltb ((length s - (at + 4)) / 5) k) too_many_batches₅ 0
    (refuse (ltb 16384 k) over_limit₃ 0
    (found k (at + 4))))

-- ---- 4. "Per batch 4 bytes: eight nibbles, low nibble first, each start i+1 minus start i."

abbrev pub up_to : ℕ → List ℕ → Bool
up_to m ns = every (λ (n : ℕ). leb n m) ns

-- the sizes of the b-th batch: 6, "nibble over 9". Groups from the width on have no operations; at width 8 there are no such groups.
unfoldable pub sizes_at : ℕ → List ℕ → ℕ → ℕ → Read (List ℕ)
sizes_at w s at b =
    let ns = digits 16 8 (le_at 4 s at) in
    refuse (not (up_to 9 ns)) bad_nibble₆ b
    (refuse (not (up_to 0 (drop w ns))) bad_nibble₆ b
    (found ns (at + 4)))

-- of k batches, the first of them the b-th
abbrev pub nibbles_at : ℕ → List ℕ → ℕ → ℕ → ℕ → Read (List (List ℕ))
nibbles_at w s = row (sizes_at w s)

abbrev pub nibble_bytes : List Record → List ℕ
nibble_bytes = in_row (λ (r : Record). le_bytes 4 (number 16 (differences r.starts)))

-- ---- 5. "Per batch 1 byte: flag of group i in bit i."

unfoldable pub bits_at : ℕ → List ℕ → ℕ → ℕ → Read (List ℕ)
bits_at w s at b =
    let fs = digits 2 8 (get_or s at 0) in
    refuse (not (up_to 0 (drop w fs))) bad_nibble₆ b
    (found fs (at + 1))

abbrev pub flags_at : ℕ → List ℕ → ℕ → ℕ → ℕ → Read (List (List ℕ))
flags_at w s = row (bits_at w s)

-- all eight; M-100, of a bit at or above the count: "the encoder writes it back"
abbrev pub flag_bytes : List Record → List ℕ
flag_bytes = in_row (λ (r : Record). number 2 r.flags ∷ [])
