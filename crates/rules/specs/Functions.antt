-- Document 01, "Numbers of refusal": the whole answer of each public function, its refusals in document 01's order, and what it leaves in lent outputs.
use Rattle.std.specs.Prelude.{Bool, cond, not, ◌&&◌, ◌||◌, List, [], ◌++◌, map, ℕ, ◌+◌, ◌-◌, ◌/◌, ◌%◌, ℤ, pos, length, take, replicate, leb, ltb, eqb}
use Rattle.std.proofs.Math.Option.{Option}
use Rattle.std.proofs.lemmas.List.Edits.{sets}
use Rattle.rules.specs.Lists.{fitted, in_row}
use Rattle.rules.specs.Answer.{Answer, good, refused, Read, found, refuse, refuse_first, ◌then◌}
use Rattle.rules.specs.Refusals.{past_end₁, over_limit₃, empty_list₁₂, no_room₁₃, bad_table₁₄, bad_structure₁₅}
use Rattle.rules.specs.Operations.{Op, operations, codes, values, good_table, op_fault}
use Rattle.rules.specs.Batching.{batches_of}
use Rattle.rules.specs.Record.{Record, Block, block_of, record_size, records_bytes, records_in}
use Rattle.rules.specs.Bytes.{count_at, op_at}
use Rattle.rules.specs.Block.{Room, Head, block_bytes, head_at, block_at}
use Rattle.rules.specs.Checks.{record_right, structure_faults, padding_faults, commitment_faults}
use Rattle.rules.specs.Lookups.{Place, group_of, next_group, raw_table, padded_table}
use Rattle.rules.specs.Strict.{refuse_unfinished}
use Rattle.rules.specs.Compare.{Entry, blocks_apart, entry_numbers}

-- ---- an arena: the three lent runs of a block

pub record Arena : Type 0 where
  pub codes : List ℕ
  pub values : List ℕ
  pub records : List ℕ

abbrev pub arena : List ℕ → List ℕ → List ℕ → Arena
arena cs vs rs = record { codes = cs; values = vs; records = rs }

-- the block that lies in an arena
unfoldable pub block_in : Arena → Block
block_in a = record { ops = operations a.codes a.values; records = records_in a.records }

-- what is not refused with 3: lists of equal length, at most 65,535 operations, whole records, at most 16,384 of them
unfoldable pub within : Arena → Bool
within a =
    eqb (length a.codes) (length a.values) &&
    (leb (length a.codes) 65535 &&
    (eqb (length a.records % record_size) 0 &&
    leb (length a.records / record_size) 16384))

-- what an arena has room for: whole records
unfoldable pub room_in : Arena → Room
room_in a = record { codes = length a.codes; values = length a.values; records = length a.records / record_size }

-- an arena of the same lengths with a block in it: content, then zeros
unfoldable pub filled : Arena → Block → Arena
filled a b =
    arena
    (fitted (length a.codes) (codes b.ops))
    (fitted (length a.values) (values b.ops))
    (fitted (length a.records) (records_bytes b.records))

-- ---- build: "3, 14, 12, 4, 13"; for 4, M-101: 4 or 17, operation by operation

-- 13, "lent output smaller than the result needs"
unfoldable pub room_for : Block → Room → Bool
room_for b room = leb (length b.ops) room.codes && (leb (length b.ops) room.values && leb (length b.records) room.records)

unfoldable pub built : ℕ → List ℕ → List ℕ → List ℕ → Room → Answer Block
built w t cs vs room =
    let xs = operations cs vs in
    let b = block_of (batches_of w t xs) in
    refuse (not (eqb (length cs) (length vs)) || ltb 16384 (length cs)) over_limit₃ 0
    (refuse (not (good_table t)) bad_table₁₄ 0
    (refuse (eqb (length cs) 0) empty_list₁₂ 0
    (refuse_first 0 (map (op_fault t) xs)
    (refuse (not (room_for b room)) no_room₁₃ 0
    (good b)))))

-- "Build, tables and decode zero all lent outputs on refusal": what an answer leaves, where a refused one leaves what is empty
abbrev pub leaves : {A : Type 0} → A → Answer A → A
leaves empty (good a) = a
leaves empty (refused n p) = empty

-- ---- encode: "3, 14, 1, 15, 4, 13" (M-101: 4 or 17); the block's bytes, for a buffer of this size from a place on

unfoldable pub encoded : ℕ → List ℕ → Arena → ℕ → ℕ → Answer (List ℕ)
encoded w t a size at =
    let b = block_in a in
    refuse (not (within a) || ltb 1048576 size) over_limit₃ 0
    (refuse (not (good_table t)) bad_table₁₄ 0
    (refuse (ltb size at) past_end₁ 0
    (refuse_first 0 (structure_faults w b)
    (refuse_first 0 (map (op_fault t) b.ops)
    (refuse (ltb size (at + length (block_bytes t b))) no_room₁₃ 0
    (good (block_bytes t b)))))))

-- "Encode writes only the block's bytes"; a refused one writes none
unfoldable pub written : List ℕ → ℕ → Answer (List ℕ) → List ℕ
written out at d = sets out at (leaves [] d)

-- ---- decode: "3 (buffer), 14, 1, then count .."

unfoldable pub decoded : ℕ → List ℕ → List ℕ → ℕ → Room → Read Block
decoded w t s at room =
    refuse (ltb 1048576 (length s)) over_limit₃ 0
    (refuse (not (good_table t)) bad_table₁₄ 0
    (refuse (ltb (length s) at) past_end₁ 0
    (block_at w t s at room)))

-- strictly, M-107: "the ordinary refusal comes if there is one, else a new 18"
unfoldable pub strictly_decoded : ℕ → List ℕ → List ℕ → ℕ → Room → Read Block
strictly_decoded w t s at room = decoded w t s at room then λ b next. refuse_unfinished w t b (found b next)

-- ---- compare, M-105: "Two blocks, each with its own offset and table."

-- where one of them is read, and the working room for it
pub record Side : Type 0 where
  pub table : List ℕ
  pub bytes : List ℕ
  pub at : ℕ
  pub room : Room

abbrev pub read_at : ℕ → Side → Read Block
read_at w x = decoded w x.table x.bytes x.at x.room

-- the report's entries, or a refusal: its mark, its number and its place. The mark is 1 for the first block, 2 for the second, and 0 where there is none.
pub data Compared : Type 0 where
  reported : List Entry → Compared
  refused_by : ℕ → ℕ → ℕ → Compared

-- go on with a block, or refuse with a mark
abbrev pub marked : ℕ → Read Block → (Block → Compared) → Compared
marked mark (good i) f = f i.item
marked mark (refused n p) f = refused_by mark n p

-- "If either is refused, only its refusal is given, the first one's if both are, with a mark saying which block." "A lent report too short gives 13 last,
-- without a mark": for a report of `room` entries
unfoldable pub compared : ℕ → Side → Side → ℕ → Compared
compared w x y room =
    marked 1 (read_at w x) (λ a.
    marked 2 (read_at w y) (λ b.
    cond (ltb room (length (blocks_apart a b))) (refused_by 0 no_room₁₃ 0) (reported (blocks_apart a b))))

-- a refusal has no entries
abbrev pub entries_of : Compared → List Entry
entries_of (reported es) = es
entries_of (refused_by m n p) = []

-- what a lent run of n numbers holds afterwards: the entries, then zeros; "and ends zeroed", where refused
unfoldable pub report_left : ℕ → Compared → List ℤ
report_left n d = take n (in_row entry_numbers (entries_of d) ++ replicate n (pos 0))

-- ---- what a reply tells: "A refusal replies with every length and total 0", as these are those of what is left

pub record Totals : Type 0 where
  pub batches : ℕ
  pub operations : ℕ

-- of a block that build or decode left
abbrev pub totals : Block → Totals
totals b = record { batches = length b.records; operations = length b.ops }

-- how many bytes encode wrote, or entries a table has
abbrev pub length_told : Answer (List ℕ) → ℕ
length_told d = length (leaves [] d)

-- decode, from a place on: "the reply says how many were used"
abbrev pub used : ℕ → Read Block → ℕ
used at (good b) = b.next - at
used at (refused n p) = 0

-- ---- a reader's steps, "count and operation reads only": decode's 3, 14 and 1, then the item at its place; the operation is the i-th

unfoldable pub count_here : List ℕ → ℕ → Read ℕ
count_here s at =
    refuse (ltb 1048576 (length s)) over_limit₃ 0
    (refuse (ltb (length s) at) past_end₁ 0
    (count_at s at))

unfoldable pub op_here : List ℕ → List ℕ → ℕ → ℕ → Read Op
op_here t s at i =
    refuse (ltb 1048576 (length s)) over_limit₃ 0
    (refuse (not (good_table t)) bad_table₁₄ 0
    (refuse (ltb (length s) at) past_end₁ 0
    (op_at t s at i)))

-- ---- how much a block needs: decode's first refusals and items 1 to 3, with room for 65,535 operations and 16,384 batches; no block has more, so that 13
-- is never the answer

abbrev pub most : Room
most = record { codes = 65535; values = 65535; records = 16384 }

unfoldable pub headed : List ℕ → List ℕ → ℕ → Read Head
headed t s at =
    refuse (ltb 1048576 (length s)) over_limit₃ 0
    (refuse (not (good_table t)) bad_table₁₄ 0
    (refuse (ltb (length s) at) past_end₁ 0
    (head_at t s at most)))

-- ---- checks: "structure 3, 15; padding 3, 15, 10; commitment 3, 14, 15, 4, then batch by batch the first fault" (M-101: 4 or 17)

unfoldable pub structure_checked : ℕ → Arena → Answer Unit
structure_checked w a =
    refuse (not (within a)) over_limit₃ 0
    (refuse_first 0 (structure_faults w (block_in a))
    (good tt))

unfoldable pub padding_checked : ℕ → Arena → Answer Unit
padding_checked w a =
    refuse (not (within a)) over_limit₃ 0
    (refuse_first 0 (structure_faults w (block_in a))
    (refuse_first 0 (padding_faults (block_in a))
    (good tt)))

unfoldable pub commitment_checked : ℕ → List ℕ → Arena → Answer Unit
commitment_checked w t a =
    refuse (not (within a)) over_limit₃ 0
    (refuse (not (good_table t)) bad_table₁₄ 0
    (refuse_first 0 (structure_faults w (block_in a))
    (refuse_first 0 (map (op_fault t) (block_in a).ops)
    (refuse_first 0 (commitment_faults t (block_in a))
    (good tt)))))

-- ---- tables: "3, 15, 10, 13"; the entries, for a lent run of this length

unfoldable pub table_of : (Block → List ℕ) → ℕ → Arena → ℕ → Answer (List ℕ)
table_of table w a room =
    let b = block_in a in
    refuse (not (within a)) over_limit₃ 0
    (refuse_first 0 (structure_faults w b)
    (refuse_first 0 (padding_faults b)
    (refuse (ltb room (length (table b))) no_room₁₃ 0
    (good (table b)))))

abbrev pub raw_tabled : ℕ → Arena → ℕ → Answer (List ℕ)
raw_tabled = table_of raw_table

abbrev pub padded_tabled : ℕ → Arena → ℕ → Answer (List ℕ)
padded_tabled = table_of padded_table

-- content, then zeros; no content where refused
unfoldable pub table_left : List ℕ → Answer (List ℕ) → List ℕ
table_left out d = fitted (length out) (leaves [] d)

-- ---- lookups in one batch: "refuse a record that fails structure with 15, place 0, its own ninth start taken as the operations lent"

unfoldable pub group_lookup : ℕ → Record → ℕ → Answer (Option Place)
group_lookup w r i = refuse (not (record_right w r)) bad_structure₁₅ 0 (good (group_of r i))

unfoldable pub next_lookup : ℕ → Record → ℕ → Answer (Option ℕ)
next_lookup w r g = refuse (not (record_right w r)) bad_structure₁₅ 0 (good (next_group r g))
