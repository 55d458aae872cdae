-- Document 01's numbers and sentences, computed by the checker from the definitions: one table, `Numbers`, under one claim. It has the numbers to check and, for
-- the guards of each function, inputs on both sides of the bound, with number and place (in a later operation or batch too), and inputs with two faults.
use Rattle.std.specs.Prelude.{◌≡◌, refl, true, false, List, [], ◌∷◌, ◌++◌, map, ℕ, ◌+◌, ◌-◌, ◌*◌, pos, negsuc, length, replicate}
use Rattle.std.proofs.Math.Option.{Option, none, some}
use Rattle.rules.specs.Lists.{but_last}
use Rattle.rules.specs.Answer.{Answer, good, refused, Read, found, item_of, refuse_first}
use Rattle.rules.specs.Operations.{Op, codes, values, kind_of, admissible, op_fault}
use Rattle.rules.specs.Batching.{target, batches_of}
use Rattle.rules.specs.Record.{Record, Block, record_of, records_bytes, no_block}
use Rattle.rules.specs.Bytes.{count_at, count_bytes}
use Rattle.rules.specs.Block.{Room, Head}
use Rattle.rules.specs.Lookups.{Place, next_group, raw_at, padded_at, padded_index, raw_index}
use Rattle.rules.specs.Strict.{own_list, differing, refuse_unfinished}
use Rattle.rules.specs.Compare.{batch_total, padded_total, raw_total, paddings_in, padding_total, entry_at, entry_by, blocks_apart, entry_size, entry_numbers}
use Rattle.rules.specs.Functions.{Arena, arena, block_in, room_in, filled, built, encoded, written, decoded, strictly_decoded, Side, Compared, reported, refused_by, compared, report_left, Totals, totals, length_told, used, count_here, op_here, headed, structure_checked, padding_checked, commitment_checked, raw_tabled, padded_tabled, table_left, group_lookup, next_lookup, leaves}
use Rattle.rules.specs.Open.{document}

-- "Table T: opcodes 0 and 2 kind 0, opcode 1 kind 1, opcode 3 kind 2, the rest 3."
abbrev pub table_t : List ℕ
table_t = 0 ∷ 1 ∷ 0 ∷ 2 ∷ replicate 124 3

abbrev pub op : ℕ → ℕ → Op
op c v = record { code = c; value = v }

-- a record: starts, flags, numbers, count
abbrev pub is : List ℕ → List ℕ → List ℕ → ℕ → Record
is s f g n = record { starts = s; flags = f; numbers = g; count = n }

abbrev pub block : List Op → List Record → Block
block xs rs = record { ops = xs; records = rs }

abbrev pub room : ℕ → ℕ → ℕ → Room
room c v r = record { codes = c; values = v; records = r }

abbrev pub ample : Room
ample = room 100 100 100

-- the answers, for a list of operations, a block and a list of bytes
abbrev pub build : List Op → Answer Block
build xs = built 8 table_t (codes xs) (values xs) ample

abbrev pub lent : Block → Arena
lent b = arena (codes b.ops) (values b.ops) (records_bytes b.records)

abbrev pub write : Block → Answer (List ℕ)
write b = encoded 8 table_t (lent b) 1000 0

abbrev pub read : List ℕ → ℕ → Read Block
read s at = decoded 8 table_t s at ample

abbrev pub structure : Block → Answer Unit
structure b = structure_checked 8 (lent b)

abbrev pub padding : Block → Answer Unit
padding b = padding_checked 8 (lent b)

abbrev pub commitment : Block → Answer Unit
commitment b = commitment_checked 8 table_t (lent b)

-- the counts of the batches that a list makes
abbrev pub counts : Answer Block → List ℕ
counts (good b) = map (λ (r : Record). r.count) b.records
counts (refused n p) = []

-- ---- lists, blocks and bytes

abbrev pub zeros : ℕ → List ℕ
zeros n = replicate n 0

abbrev pub twos : ℕ → List Op
twos n = replicate n (op 2 0)

abbrev pub pushes : ℕ → List Op
pushes n = replicate n (op 1 5)

abbrev pub p1 : Block
p1 = block (op 1 5 ∷ op 0 0 ∷ []) (is (0 ∷ replicate 8 2) (1 ∷ zeros 7) (1 ∷ 5 ∷ zeros 6) 2 ∷ [])

abbrev pub p2 : List ℕ
p2 = 0x05 ∷ 0x01 ∷ 0x05 ∷ 0 ∷ 0 ∷ 0 ∷ 0 ∷ 0 ∷ 0 ∷ 0 ∷ 0x00 ∷ 0x01 ∷ 0 ∷ 0 ∷ 0 ∷ 0x02 ∷ 0 ∷ 0 ∷ 0 ∷ 0x01 ∷ []

abbrev pub p6 : Block
p6 = block (twos 8 ++ (op 1 5 ∷ op 0 0 ∷ op 0 0 ∷ [])) (is (0 ∷ 8 ∷ 10 ∷ 10 ∷ replicate 5 11) (0 ∷ 1 ∷ 0 ∷ 1 ∷ zeros 4) (1134765260439810 ∷ 1 ∷ 5 ∷ zeros 5) 4 ∷ [])

-- eight of opcode 1: two batches
abbrev pub p7more : Block
p7more =
    block (pushes 7 ++ (op 0 0 ∷ op 1 5 ∷ op 0 0 ∷ []))
    (is (0 ∷ replicate 8 8) (1 ∷ zeros 7) (4432676798593 ∷ replicate 7 5) 8 ∷ is (0 ∷ replicate 8 2) (1 ∷ zeros 7) (1 ∷ 5 ∷ zeros 6) 2 ∷ [])

-- the record of a batch of one operation of opcode 2, and of a batch of none
abbrev pub single : Record
single = is (0 ∷ replicate 8 1) (zeros 8) (2 ∷ zeros 7) 1

abbrev pub nothing : Record
nothing = is (zeros 9) (zeros 8) (zeros 8) 0

-- that record with other flags, and with other numbers and another count
abbrev pub flagged : List ℕ → Record
flagged fs = is (0 ∷ replicate 8 1) fs (2 ∷ zeros 7) 1

abbrev pub numbered : List ℕ → ℕ → Record
numbered ns k = is (0 ∷ replicate 8 1) (zeros 8) ns k

-- bytes: operation 1 with value 5
abbrev pub push : List ℕ
push = 1 ∷ 5 ∷ zeros 7

-- bytes: the count of n operations, operations, k batches, nibbles, flags
abbrev pub laid : ℕ → List ℕ → ℕ → List ℕ → List ℕ → List ℕ
laid n xs k ns fs = (2 * n + 1) ∷ (xs ++ ((k ∷ 0 ∷ 0 ∷ 0 ∷ []) ++ (ns ++ fs)))

-- four bytes with one that is not 0: groups 0 and 1, and groups 6 and 7
abbrev pub low : ℕ → List ℕ
low n = n ∷ 0 ∷ 0 ∷ 0 ∷ []

abbrev pub high : ℕ → List ℕ
high n = 0 ∷ 0 ∷ 0 ∷ n ∷ []

-- bytes: n operations of opcode 2, then one batch with these nibbles
abbrev pub bare : ℕ → List ℕ → List ℕ
bare n ns = laid n (replicate n 2) 1 ns (0 ∷ [])

-- a value that is too large by one, and the largest, as bytes
abbrev pub over : List ℕ
over = 1 ∷ 0 ∷ 0 ∷ 0 ∷ 255 ∷ 255 ∷ 255 ∷ 255 ∷ []

abbrev pub top : List ℕ
top = 0 ∷ 0 ∷ 0 ∷ 0 ∷ 255 ∷ 255 ∷ 255 ∷ 255 ∷ []

-- ---- "Operations and their table"

pub record OfOperations : Type 0 where
  -- a good table has 128 bytes, kinds 0 to 3, and kind 0 for opcode 0
  pub table_127 : built 8 (zeros 127) (2 ∷ []) (0 ∷ []) ample ≡ refused 14 0
  pub table_129 : built 8 (zeros 129) (2 ∷ []) (0 ∷ []) ample ≡ refused 14 0
  pub kind_four : built 8 (zeros 127 ++ (4 ∷ [])) (2 ∷ []) (0 ∷ []) ample ≡ refused 14 0
  pub noop_one : built 8 (1 ∷ zeros 127) (2 ∷ []) (0 ∷ []) ample ≡ refused 14 0
  pub noop_three : built 8 (3 ∷ zeros 127) (2 ∷ []) (0 ∷ []) ample ≡ refused 14 0
  -- opcode under 128, whatever the table has; past the table there is no kind but 3
  pub opcode_127 : built 8 (zeros 128) (127 ∷ []) (0 ∷ []) ample ≡ good (block (op 127 0 ∷ []) (numbered (127 ∷ zeros 7) 1 ∷ []))
  pub opcode_128 : built 8 (zeros 128) (0 ∷ 128 ∷ []) (0 ∷ 0 ∷ []) ample ≡ refused 4 1
  pub opcode_over : (admissible (zeros 200) (op 127 0) ≡ true) × (admissible (zeros 200) (op 128 0) ≡ false)
  pub past_the_table : kind_of (zeros 5) 5 ≡ 3
  pub unassigned : build (op 2 0 ∷ op 4 0 ∷ []) ≡ refused 4 1
  -- value 0 for kind 0, below the field's size for kinds 1 and 2
  pub valued_noop : build (op 2 0 ∷ op 2 0 ∷ op 2 1 ∷ []) ≡ refused 17 2
  pub largest_1 : build (op 1 18446744069414584320 ∷ op 2 0 ∷ []) ≡ good (block (op 1 18446744069414584320 ∷ op 2 0 ∷ []) (is (0 ∷ replicate 8 2) (zeros 8) (257 ∷ 18446744069414584320 ∷ zeros 6) 2 ∷ []))
  pub largest_2 : build (op 3 18446744069414584320 ∷ []) ≡ good (block (op 3 18446744069414584320 ∷ []) (numbered (3 ∷ zeros 7) 1 ∷ []))
  pub field_1 : build (op 2 0 ∷ op 1 18446744069414584321 ∷ []) ≡ refused 17 1
  pub field_2 : build (op 2 0 ∷ op 3 18446744069414584321 ∷ []) ≡ refused 17 1
  -- "Limits": 16,384 operations in a list to batch, as many values
  pub list_16385 : (cs vs : List ℕ) → length cs ≡ 16385 → length vs ≡ 16385 → built 8 table_t cs vs ample ≡ refused 3 0
  pub list_16384 : (cs vs : List ℕ) → length cs ≡ 16384 → length vs ≡ 16384 → built 8 [] cs vs ample ≡ refused 14 0
  pub fewer_values : built 8 table_t (2 ∷ 2 ∷ []) (0 ∷ []) ample ≡ refused 3 0
  pub more_values : built 8 table_t (2 ∷ []) (0 ∷ 0 ∷ []) ample ≡ refused 3 0
  -- 65,535 padded operations and as many values, 16,384 batches, records whole
  pub block_65536 : (cs vs : List ℕ) → length cs ≡ 65536 → length vs ≡ 65536 → structure_checked 8 (arena cs vs []) ≡ refused 3 0
  pub batches_16385 : (rs : List ℕ) → length rs ≡ 1343570 → structure_checked 8 (arena [] [] rs) ≡ refused 3 0
  pub block_fewer : structure_checked 8 (arena (2 ∷ []) [] (records_bytes (single ∷ []))) ≡ refused 3 0
  pub block_more : structure_checked 8 (arena (2 ∷ []) (0 ∷ 0 ∷ []) (records_bytes (single ∷ []))) ≡ refused 3 0
  pub block_full : (cs vs rs : List ℕ) → length cs ≡ 65535 → length vs ≡ 65535 → length rs ≡ 1343488 → commitment_checked 8 [] (arena cs vs rs) ≡ refused 14 0
  pub record_81 : structure_checked 8 (arena [] [] (zeros 81)) ≡ refused 3 0
  pub record_83 : structure_checked 8 (arena [] [] (zeros 83)) ≡ refused 3 0
  pub record_82 : structure_checked 8 (arena [] [] (zeros 82)) ≡ good tt
  pub records_164 : structure_checked 8 (arena [] [] (zeros 164)) ≡ good tt
  -- 1,048,576 bytes in a byte buffer
  pub bytes_1048577 : (s : List ℕ) → length s ≡ 1048577 → decoded 8 [] s 1048578 ample ≡ refused 3 0
  pub bytes_1048576 : (s : List ℕ) → length s ≡ 1048576 → decoded 8 table_t s 1048577 ample ≡ refused 1 0
  pub buffer_1048577 : encoded 8 table_t (lent (block [] [])) 1048577 0 ≡ refused 3 0
  pub buffer_1048576 : encoded 8 table_t (lent (block [] [])) 1048576 0 ≡ good (1 ∷ 0 ∷ 0 ∷ 0 ∷ 0 ∷ [])

-- ---- "Batching"

pub record OfBatching : Type 0 where
  -- "close and open until next free is a power of two": the group counts of plain operations
  pub targets : map target (1 ∷ 2 ∷ 3 ∷ 4 ∷ 5 ∷ 6 ∷ 7 ∷ 8 ∷ []) ≡ 1 ∷ 2 ∷ 4 ∷ 4 ∷ 8 ∷ 8 ∷ 8 ∷ 8 ∷ []
  pub plain_1 : counts (build (twos 1)) ≡ 1 ∷ []
  pub plain_10 : counts (build (twos 10)) ≡ 2 ∷ []
  pub plain_18 : counts (build (twos 18)) ≡ 2 ∷ []
  pub plain_28 : counts (build (twos 28)) ≡ 4 ∷ []
  pub plain_36 : counts (build (twos 36)) ≡ 4 ∷ []
  pub plain_37 : build (twos 37) ≡ good (block (twos 37 ++ replicate 3 (op 0 0)) (is (0 ∷ 9 ∷ 18 ∷ 27 ∷ 36 ∷ 37 ∷ 38 ∷ 39 ∷ 40 ∷ []) (zeros 5 ++ (1 ∷ 1 ∷ 1 ∷ [])) (replicate 4 145249953336295682 ++ (2 ∷ 0 ∷ 0 ∷ 0 ∷ [])) 8 ∷ []))
  pub plain_72 : build (twos 72) ≡ good (block (twos 72) (is (0 ∷ 9 ∷ 18 ∷ 27 ∷ 36 ∷ 45 ∷ 54 ∷ 63 ∷ 72 ∷ []) (zeros 8) (replicate 8 145249953336295682) 8 ∷ []))
  pub plain_73 : counts (build (twos 73)) ≡ 8 ∷ 1 ∷ []
  -- a plain operation wants under 9 in the group, or a free group
  pub seven_and_two : counts (build (pushes 7 ++ twos 2)) ≡ 8 ∷ []
  pub seven_and_three : counts (build (pushes 7 ++ twos 3)) ≡ 8 ∷ 1 ∷ []
  pub six_and_four : counts (build (pushes 6 ++ twos 4)) ≡ 8 ∷ []
  -- one with an immediate wants a free slot, and with 8 or 9 in the group a free group before it
  pub seven_in_eight : counts (build (pushes 6 ++ (twos 1 ++ pushes 1))) ≡ 8 ∷ []
  pub six_of_eight : counts (build (pushes 6 ++ (twos 2 ++ pushes 1))) ≡ 8 ∷ 2 ∷ []
  pub six_of_nine : counts (build (pushes 6 ++ (twos 3 ++ pushes 1))) ≡ 8 ∷ 2 ∷ []
  pub five_of_eight : counts (build (pushes 5 ++ (twos 3 ++ pushes 1))) ≡ 8 ∷ []
  pub five_of_nine : counts (build (pushes 5 ++ (twos 4 ++ pushes 1))) ≡ 8 ∷ []
  -- a group of eight that ends in an immediate's operation is closed by a Noop; one with an immediate before its end is not
  pub noop_ninth :
      build (twos 7 ++ pushes 2)
      ≡ good (block (twos 7 ++ (op 1 5 ∷ op 0 0 ∷ op 1 5 ∷ op 0 0 ∷ [])) (is (0 ∷ 9 ∷ 9 ∷ replicate 6 11) (1 ∷ 0 ∷ 1 ∷ zeros 5) (571815307018498 ∷ 5 ∷ 1 ∷ 5 ∷ zeros 4) 4 ∷ []))
  pub no_noop : build (op 1 5 ∷ op 1 6 ∷ op 2 0 ∷ []) ≡ good (block (op 1 5 ∷ op 1 6 ∷ op 2 0 ∷ op 0 0 ∷ []) (is (0 ∷ 3 ∷ 3 ∷ 3 ∷ replicate 5 4) (0 ∷ 0 ∷ 0 ∷ 1 ∷ zeros 4) (32897 ∷ 5 ∷ 6 ∷ zeros 5) 4 ∷ []))
  -- all but the last of a list
  pub but_last_lem : (but_last (op 1 5 ∷ op 2 0 ∷ op 0 0 ∷ []) ≡ op 1 5 ∷ op 2 0 ∷ []) × (but_last (twos 1) ≡ [])
  -- "Errors the rules must catch": a kind 2 value in a group, a caller's own Noop dropped
  pub kind_two : build (op 3 7 ∷ []) ≡ good (block (op 3 7 ∷ []) (numbered (3 ∷ zeros 7) 1 ∷ []))
  pub own_noop : build (op 2 0 ∷ op 0 0 ∷ []) ≡ good (block (op 2 0 ∷ op 0 0 ∷ []) (is (0 ∷ replicate 8 2) (zeros 8) (2 ∷ zeros 7) 1 ∷ []))

-- ---- "Block bytes", written and read item by item

pub record OfBytes : Type 0 where
  -- the count's forms: cut short, more than two zeros, not the shortest, over 65,535
  pub count_missing : count_at (7 ∷ []) 1 ≡ refused 2 1
  pub count_cut_2 : count_at (7 ∷ 0x02 ∷ []) 1 ≡ refused 2 1
  pub count_cut_3 : count_at (7 ∷ 0x04 ∷ 0 ∷ []) 1 ≡ refused 2 1
  pub three_zeros : count_at (7 ∷ 0x08 ∷ []) 1 ≡ refused 3 0
  pub all_zeros : count_at (7 ∷ 0 ∷ []) 1 ≡ refused 3 0
  pub long_127 : count_at (7 ∷ 0xfe ∷ 0x01 ∷ []) 1 ≡ refused 3 0
  pub long_16383 : count_at (7 ∷ 0xfc ∷ 0xff ∷ 0x01 ∷ []) 1 ≡ refused 3 0
  pub count_65535 : (count_bytes 65535 ≡ 0xfc ∷ 0xff ∷ 0x07 ∷ []) × (count_at (0xfc ∷ 0xff ∷ 0x07 ∷ []) 0 ≡ found 65535 3)
  pub count_65536 : count_at (0x04 ∷ 0x00 ∷ 0x08 ∷ []) 0 ≡ refused 3 0
  -- an operation: 2 has the place of its opcode, 4 and 17 its number, and an unassigned opcode goes before a missing value
  pub op_missing : read (3 ∷ []) 0 ≡ refused 2 1
  pub op_missing_later : read (5 ∷ 2 ∷ []) 0 ≡ refused 2 2
  pub value_cut : read (3 ∷ 1 ∷ 5 ∷ zeros 6) 0 ≡ refused 2 1
  pub value_cut_later : read (5 ∷ 2 ∷ 3 ∷ 5 ∷ []) 0 ≡ refused 2 2
  pub value_whole : read (3 ∷ 1 ∷ 5 ∷ zeros 7) 0 ≡ refused 2 10
  pub opcode_unassigned : read (5 ∷ 2 ∷ 4 ∷ []) 0 ≡ refused 4 1
  pub opcode_high : decoded 8 (zeros 128) (5 ∷ 2 ∷ 128 ∷ []) 0 ample ≡ refused 4 1
  pub value_over_1 : read (5 ∷ 2 ∷ 1 ∷ over) 0 ≡ refused 17 1
  pub value_over_2 : read (5 ∷ 2 ∷ 3 ∷ over) 0 ≡ refused 17 1
  pub value_top : read (laid 1 (3 ∷ top) 1 (low 1) (0 ∷ [])) 0 ≡ found (block (op 3 18446744069414584320 ∷ []) (numbered (3 ∷ zeros 7) 1 ∷ [])) 19
  -- the batch count: cut short, all four bytes, (bytes left / 5) rounded down, over 16,384
  pub batches_missing : read (3 ∷ 2 ∷ []) 0 ≡ refused 2 2
  pub batches_cut : read (3 ∷ 2 ∷ 0 ∷ 0 ∷ 0 ∷ []) 0 ≡ refused 2 2
  pub fourth_byte : read (1 ∷ 0 ∷ 0 ∷ 0 ∷ 1 ∷ []) 0 ≡ refused 5 0
  pub nine_left : read (1 ∷ 2 ∷ 0 ∷ 0 ∷ 0 ∷ zeros 9) 0 ≡ refused 5 0
  pub ten_left : read (1 ∷ 2 ∷ 0 ∷ 0 ∷ 0 ∷ zeros 10) 0 ≡ found (block [] (nothing ∷ nothing ∷ [])) 15
  pub left_from_here : read ((7 ∷ 7 ∷ 7 ∷ 7 ∷ 7 ∷ []) ++ (1 ∷ 1 ∷ 0 ∷ 0 ∷ 0 ∷ [])) 5 ≡ refused 5 0
  pub five_first : read (1 ∷ 0x01 ∷ 0x40 ∷ 0 ∷ 0 ∷ zeros 9) 0 ≡ refused 5 0
  pub read_16385 : (s : List ℕ) → length s ≡ 81925 → read (1 ∷ 0x01 ∷ 0x40 ∷ 0 ∷ 0 ∷ s) 0 ≡ refused 3 0
  pub read_16384 : (s : List ℕ) → length s ≡ 81920 → read (1 ∷ 0x00 ∷ 0x40 ∷ 0 ∷ 0 ∷ s) 0 ≡ refused 13 0
  -- nibbles, low first, and flags, group i in bit i
  pub nibbles : read (bare 3 (low 0x21)) 0 ≡ found (block (twos 3) (is (0 ∷ 1 ∷ replicate 7 3) (zeros 8) (2 ∷ 258 ∷ zeros 6) 2 ∷ [])) 13
  pub nibble_9_last : read (bare 9 (high 0x90)) 0 ≡ found (block (twos 9) (is (zeros 8 ++ (9 ∷ [])) (zeros 8) (zeros 7 ++ (145249953336295682 ∷ [])) 8 ∷ [])) 19
  pub nibble_10_last : read (bare 10 (high 0xa0)) 0 ≡ refused 6 0
  pub nibble_10_later : read (laid 11 (replicate 11 2) 2 (low 1 ++ low 10) (0 ∷ 0 ∷ [])) 0 ≡ refused 6 1
  pub p6_bytes :
      (write p6 ≡ good (laid 11 (replicate 8 2 ++ (push ++ (0 ∷ 0 ∷ []))) 1 (0x28 ∷ 0x10 ∷ 0 ∷ 0 ∷ []) (0x0a ∷ [])))
      × (read (laid 11 (replicate 8 2 ++ (push ++ (0 ∷ 0 ∷ []))) 1 (0x28 ∷ 0x10 ∷ 0 ∷ 0 ∷ []) (0x0a ∷ [])) 0 ≡ found p6 29)
  pub two_batches :
      (write p7more ≡ good (laid 10 (push ++ (push ++ (push ++ (push ++ (push ++ (push ++ (push ++ (0 ∷ (push ++ (0 ∷ [])))))))))) 2 (low 8 ++ low 2) (1 ∷ 1 ∷ [])))
      × (read (laid 10 (push ++ (push ++ (push ++ (push ++ (push ++ (push ++ (push ++ (0 ∷ (push ++ (0 ∷ [])))))))))) 2 (low 8 ++ low 2) (1 ∷ 1 ∷ [])) 0 ≡ found p7more 89)
  pub kind_2_bytes : write (block (op 3 258 ∷ []) (numbered (3 ∷ zeros 7) 1 ∷ [])) ≡ good (laid 1 (3 ∷ 2 ∷ 1 ∷ zeros 6) 1 (low 1) (0 ∷ []))
  pub empty_block : (write (block [] []) ≡ good (1 ∷ 0 ∷ 0 ∷ 0 ∷ 0 ∷ [])) × (read (1 ∷ 0 ∷ 0 ∷ 0 ∷ 0 ∷ []) 0 ≡ found (block [] []) 5)

-- ---- "Decoding a batch"

pub record OfReading : Type 0 where
  -- the numbers and the count
  pub empty_group : read (bare 2 (0x01 ∷ 0x01 ∷ 0 ∷ 0 ∷ [])) 0 ≡ found (block (twos 2) (is (0 ∷ 1 ∷ 1 ∷ replicate 6 2) (zeros 8) (2 ∷ 0 ∷ 2 ∷ zeros 5) 3 ∷ [])) 12
  pub groups_after : read (bare 3 (0x01 ∷ 0x11 ∷ 0 ∷ 0 ∷ [])) 0 ≡ found (block (twos 3) (is (0 ∷ 1 ∷ 1 ∷ 2 ∷ replicate 5 3) (zeros 8) (2 ∷ 0 ∷ 2 ∷ 2 ∷ zeros 4) 4 ∷ [])) 13
  pub empty_first : read (bare 1 (low 0x10)) 0 ≡ found (block (twos 1) (is (0 ∷ 0 ∷ replicate 7 1) (zeros 8) (0 ∷ 2 ∷ zeros 6) 2 ∷ [])) 11
  pub slot_after_lem : read (laid 2 (2 ∷ push) 1 (low 0x11) (0 ∷ [])) 0 ≡ found (block (op 2 0 ∷ op 1 5 ∷ []) (is (0 ∷ 1 ∷ replicate 7 2) (zeros 8) (2 ∷ 1 ∷ 5 ∷ zeros 5) 3 ∷ [])) 20
  pub slot_then_empty : read (laid 2 (push ++ (2 ∷ [])) 1 (0x01 ∷ 0x10 ∷ 0 ∷ 0 ∷ []) (0 ∷ [])) 0 ≡ found (block (op 1 5 ∷ op 2 0 ∷ []) (is (0 ∷ 1 ∷ 1 ∷ 1 ∷ replicate 5 2) (zeros 8) (1 ∷ 5 ∷ 0 ∷ 2 ∷ zeros 4) 4 ∷ [])) 20
  pub two_slots : read (laid 2 (push ++ push) 1 (0x01 ∷ 0x01 ∷ 0 ∷ 0 ∷ []) (0 ∷ [])) 0 ≡ found (block (pushes 2) (is (0 ∷ 1 ∷ 1 ∷ replicate 6 2) (zeros 8) (1 ∷ 5 ∷ 1 ∷ 5 ∷ zeros 4) 4 ∷ [])) 28
  pub slot_seven : read (laid 1 push 1 (high 0x01) (0 ∷ [])) 0 ≡ found (block (op 1 5 ∷ []) (is (zeros 7 ++ (1 ∷ 1 ∷ [])) (zeros 8) (zeros 6 ++ (1 ∷ 5 ∷ [])) 8 ∷ [])) 19
  pub kind_2_read : read (laid 2 (3 ∷ 2 ∷ 1 ∷ (zeros 6 ++ (2 ∷ []))) 1 (low 2) (0 ∷ [])) 0 ≡ found (block (op 3 258 ∷ op 2 0 ∷ []) (is (0 ∷ replicate 8 2) (zeros 8) (259 ∷ zeros 7) 1 ∷ [])) 20
  pub empty_between : read (laid 2 (2 ∷ 2 ∷ []) 3 (low 1 ++ (low 0 ++ low 1)) (0 ∷ 0 ∷ 0 ∷ [])) 0 ≡ found (block (twos 2) (single ∷ nothing ∷ single ∷ [])) 22
  -- 7, 8, 9, 10 and 11, in the first batch and in a later one
  pub runs_past : read (bare 1 (low 2)) 0 ≡ refused 7 0
  pub runs_past_by_two : read (bare 1 (low 0x11)) 0 ≡ refused 7 0
  pub runs_past_later : read (laid 3 (2 ∷ 2 ∷ 2 ∷ []) 2 (low 2 ++ low 2) (0 ∷ 0 ∷ [])) 0 ≡ refused 7 1
  pub slot_eight : read (laid 1 push 1 (high 0x10) (0 ∷ [])) 0 ≡ refused 8 0
  pub slot_eight_later : read (laid 3 (2 ∷ 2 ∷ push) 2 (low 2 ++ high 0x10) (0 ∷ 0 ∷ [])) 0 ≡ refused 8 1
  pub eight_slots : read (laid 8 (push ++ (push ++ (push ++ (push ++ (push ++ (push ++ (push ++ push))))))) 1 (low 8) (0 ∷ [])) 0 ≡ refused 8 0
  pub slot_taken : read (laid 2 (push ++ (2 ∷ [])) 1 (low 0x11) (0 ∷ [])) 0 ≡ refused 9 0
  pub slot_taken_later : read (laid 4 (2 ∷ 2 ∷ (push ++ (2 ∷ []))) 2 (low 2 ++ low 0x11) (0 ∷ 0 ∷ [])) 0 ≡ refused 9 1
  pub slot_taken_first : read (laid 4 (push ++ (push ++ (push ++ (2 ∷ [])))) 1 (high 0x13) (0 ∷ [])) 0 ≡ refused 9 0
  pub first_group_first : read (laid 3 (push ++ (2 ∷ push)) 1 (0x11 ∷ 0 ∷ 0 ∷ 0x10 ∷ []) (0 ∷ [])) 0 ≡ refused 9 0
  pub no_noop_flagged : read (laid 1 (2 ∷ []) 1 (low 1) (1 ∷ [])) 0 ≡ refused 10 0
  pub noop_before_end : read (laid 2 (0 ∷ 2 ∷ []) 1 (low 2) (1 ∷ [])) 0 ≡ refused 10 0
  pub empty_flagged : read (laid 1 (2 ∷ []) 1 (low 0x10) (1 ∷ [])) 0 ≡ refused 10 0
  pub immediate_flagged : read (laid 2 (push ++ (0 ∷ [])) 1 (low 2) (2 ∷ [])) 0 ≡ refused 10 0
  pub flag_later : read (laid 3 (2 ∷ 2 ∷ 2 ∷ []) 2 (low 2 ++ low 1) (0 ∷ 1 ∷ [])) 0 ≡ refused 10 1
  pub flag_third : read (laid 4 (2 ∷ 2 ∷ 2 ∷ 2 ∷ []) 3 (low 2 ++ (low 1 ++ low 1)) (0 ∷ 0 ∷ 1 ∷ [])) 0 ≡ refused 10 2
  pub flag_right_later : read (laid 3 (2 ∷ 2 ∷ 0 ∷ []) 2 (low 1 ++ low 0x11) (0 ∷ 0x02 ∷ [])) 0 ≡ found (block (op 2 0 ∷ op 2 0 ∷ op 0 0 ∷ []) (single ∷ is (0 ∷ 1 ∷ replicate 7 2) (0 ∷ 1 ∷ zeros 6) (2 ∷ zeros 7) 2 ∷ [])) 18
  pub flag_right : read (laid 2 (2 ∷ 0 ∷ []) 1 (low 2) (1 ∷ [])) 0 ≡ found (block (op 2 0 ∷ op 0 0 ∷ []) (is (0 ∷ replicate 8 2) (1 ∷ zeros 7) (2 ∷ zeros 7) 1 ∷ [])) 12
  pub left_over : read (laid 2 (2 ∷ 2 ∷ []) 1 (low 1) (0 ∷ [])) 0 ≡ refused 11 0
  -- 13: room exactly enough, and one less of each
  pub room_right : decoded 8 table_t p2 0 (room 2 2 1) ≡ found p1 20
  pub codes_short : decoded 8 table_t p2 0 (room 1 2 1) ≡ refused 13 0
  pub values_short : decoded 8 table_t p2 0 (room 2 1 1) ≡ refused 13 0
  pub records_short : decoded 8 table_t p2 0 (room 2 2 0) ≡ refused 13 0
  -- at a width of 4 no group from there on has operations, a slot or a flag
  pub width_nibble : decoded 4 table_t (laid 2 (2 ∷ 2 ∷ []) 2 (low 1 ++ (0 ∷ 0 ∷ 0x01 ∷ 0 ∷ [])) (0 ∷ 0 ∷ [])) 0 ample ≡ refused 6 1
  pub width_flag : decoded 4 table_t (laid 2 (2 ∷ 2 ∷ []) 2 (low 1 ++ low 1) (0 ∷ 0x10 ∷ [])) 0 ample ≡ refused 6 1
  pub width_slot : decoded 4 table_t (laid 1 push 1 (0 ∷ 0x10 ∷ 0 ∷ 0 ∷ []) (0 ∷ [])) 0 ample ≡ refused 8 0
  pub width_four : decoded 4 table_t (laid 1 (2 ∷ []) 1 (0 ∷ 0x10 ∷ 0 ∷ 0 ∷ []) (0 ∷ [])) 0 ample ≡ found (block (twos 1) (is (zeros 4 ++ replicate 5 1) (zeros 8) (0 ∷ 0 ∷ 0 ∷ 2 ∷ zeros 4) 4 ∷ [])) 11

-- ---- "Checks"

pub record OfChecks : Type 0 where
  pub passes : (structure p1 ≡ good tt) × (padding p1 ≡ good tt) × (commitment p1 ≡ good tt)
  pub passes_6 : (structure p6 ≡ good tt) × (padding p6 ≡ good tt) × (commitment p6 ≡ good tt)
  pub passes_7 : (structure p7more ≡ good tt) × (padding p7more ≡ good tt) × (commitment p7more ≡ good tt)
  -- batch data that belongs to another operation list does not pass
  pub stale_value : commitment (block (op 1 6 ∷ op 0 0 ∷ []) p1.records) ≡ refused 16 0
  pub stale_code : commitment (block (op 2 0 ∷ op 0 0 ∷ []) p1.records) ≡ refused 16 0
  pub stale_length : structure (block (op 1 5 ∷ op 0 0 ∷ op 2 0 ∷ []) p1.records) ≡ refused 15 1
  -- structure, clause by clause
  pub count_9 : structure (block [] (is (zeros 9) (zeros 8) (zeros 8) 9 ∷ [])) ≡ refused 15 0
  pub count_8 : structure (block [] (is (zeros 9) (zeros 8) (zeros 8) 8 ∷ [])) ≡ good tt
  pub flag_2 : structure (block (twos 1) (flagged (2 ∷ zeros 7) ∷ [])) ≡ refused 15 0
  pub flag_2_last : structure (block (twos 1) (flagged (zeros 7 ++ (2 ∷ [])) ∷ [])) ≡ refused 15 0
  pub first_start : structure (block (twos 1) (is (replicate 9 1) (zeros 8) (zeros 8) 0 ∷ [])) ≡ refused 15 0
  pub falling : structure (block (twos 2) (is (0 ∷ 2 ∷ 1 ∷ replicate 6 2) (zeros 8) (zeros 8) 3 ∷ [])) ≡ refused 15 0
  pub falling_last : structure (block (twos 1) (is (0 ∷ replicate 7 2 ++ (1 ∷ [])) (zeros 8) (zeros 8) 8 ∷ [])) ≡ refused 15 0
  pub ten_in_group : structure (block (twos 10) (is (0 ∷ replicate 8 10) (zeros 8) (zeros 8) 1 ∷ [])) ≡ refused 15 0
  pub ten_in_last : structure (block (twos 10) (is (zeros 8 ++ (10 ∷ [])) (zeros 8) (zeros 8) 8 ∷ [])) ≡ refused 15 0
  pub nine_in_last : structure (block (twos 9) (is (zeros 8 ++ (9 ∷ [])) (zeros 8) (zeros 8) 8 ∷ [])) ≡ good tt
  pub count_short : structure (block (twos 2) (is (0 ∷ 1 ∷ replicate 7 2) (zeros 8) (2 ∷ zeros 7) 1 ∷ [])) ≡ refused 15 0
  pub later_batch : structure (block (twos 2) (single ∷ flagged (2 ∷ zeros 7) ∷ [])) ≡ refused 15 1
  pub sum_less : structure (block (twos 3) (single ∷ single ∷ [])) ≡ refused 15 2
  pub sum_more : structure (block (twos 1) (single ∷ single ∷ [])) ≡ refused 15 2
  pub batch_before_sum : structure (block (twos 3) (single ∷ flagged (2 ∷ zeros 7) ∷ [])) ≡ refused 15 1
  pub no_batches : structure (block (twos 1) []) ≡ refused 15 0
  pub no_operations : structure (block [] []) ≡ good tt
  -- padding
  pub not_noop : padding (block (twos 1) (flagged (1 ∷ zeros 7) ∷ [])) ≡ refused 10 0
  pub noop_not_last : padding (block (op 0 0 ∷ op 2 0 ∷ []) (is (0 ∷ replicate 8 2) (1 ∷ zeros 7) (256 ∷ zeros 7) 1 ∷ [])) ≡ refused 10 0
  pub noop_last : padding (block (op 2 0 ∷ op 0 0 ∷ []) (is (0 ∷ replicate 8 2) (1 ∷ zeros 7) (2 ∷ zeros 7) 1 ∷ [])) ≡ good tt
  pub empty_flagged : padding (block (twos 1) (is (0 ∷ 0 ∷ replicate 7 1) (1 ∷ zeros 7) (0 ∷ 2 ∷ zeros 6) 2 ∷ [])) ≡ refused 10 0
  pub padding_later : padding (block (twos 2) (single ∷ flagged (1 ∷ zeros 7) ∷ [])) ≡ refused 10 1
  -- commitment
  pub number_wrong : commitment (block (twos 1) (numbered (3 ∷ zeros 7) 1 ∷ [])) ≡ refused 16 0
  pub number_less : commitment (block (twos 1) (numbered (1 ∷ zeros 7) 1 ∷ [])) ≡ refused 16 0
  pub number_later : commitment (block (twos 2) (single ∷ numbered (3 ∷ zeros 7) 1 ∷ [])) ≡ refused 16 1
  pub second_number : commitment (block (twos 2) (is (0 ∷ 1 ∷ replicate 7 2) (zeros 8) (2 ∷ 3 ∷ zeros 6) 2 ∷ [])) ≡ refused 16 0
  pub slot_at_count : commitment (block (pushes 1) (numbered (1 ∷ 5 ∷ zeros 6) 1 ∷ [])) ≡ refused 8 0
  pub slot_at_eight : commitment (block (pushes 1) (is (zeros 8 ++ (1 ∷ [])) (zeros 8) (zeros 7 ++ (1 ∷ [])) 8 ∷ [])) ≡ refused 8 0
  pub slot_later : commitment (block (op 2 0 ∷ op 1 5 ∷ []) (single ∷ numbered (1 ∷ 5 ∷ zeros 6) 1 ∷ [])) ≡ refused 8 1
  pub slot_taken : commitment (block (op 1 5 ∷ op 2 0 ∷ []) (is (0 ∷ 1 ∷ replicate 7 2) (zeros 8) (1 ∷ 2 ∷ zeros 6) 2 ∷ [])) ≡ refused 9 0
  pub slot_taken_later : commitment (block (op 2 0 ∷ op 1 5 ∷ op 2 0 ∷ []) (single ∷ is (0 ∷ 1 ∷ replicate 7 2) (zeros 8) (1 ∷ 2 ∷ zeros 6) 2 ∷ [])) ≡ refused 9 1
  pub values_right : commitment (block (op 1 5 ∷ op 1 6 ∷ []) (is (0 ∷ replicate 8 2) (zeros 8) (129 ∷ 5 ∷ 6 ∷ zeros 5) 3 ∷ [])) ≡ good tt
  pub value_top : commitment (block (op 1 18446744069414584320 ∷ []) (numbered (1 ∷ 18446744069414584320 ∷ zeros 6) 2 ∷ [])) ≡ good tt
  pub second_value : commitment (block (op 1 5 ∷ op 1 6 ∷ []) (is (0 ∷ replicate 8 2) (zeros 8) (129 ∷ 5 ∷ 7 ∷ zeros 5) 3 ∷ [])) ≡ refused 16 0
  pub value_later : commitment (block (op 2 0 ∷ op 1 6 ∷ []) (single ∷ numbered (1 ∷ 5 ∷ zeros 6) 2 ∷ [])) ≡ refused 16 1
  pub empty_0 : commitment (block (twos 1) (numbered (2 ∷ zeros 7) 2 ∷ [])) ≡ good tt
  pub empty_then_slot : commitment (block (pushes 1) (is (0 ∷ 0 ∷ replicate 7 1) (zeros 8) (0 ∷ 1 ∷ 5 ∷ zeros 5) 3 ∷ [])) ≡ good tt
  pub two_slots : commitment (block (op 1 5 ∷ op 1 6 ∷ op 2 0 ∷ []) (is (0 ∷ 1 ∷ 1 ∷ replicate 6 3) (zeros 8) (1 ∷ 5 ∷ 257 ∷ 6 ∷ zeros 4) 4 ∷ [])) ≡ good tt
  pub empty_not_0 : commitment (block (twos 1) (numbered (2 ∷ 7 ∷ zeros 6) 2 ∷ [])) ≡ refused 16 0
  pub second_empty_not_0 : commitment (block (twos 1) (numbered (2 ∷ 0 ∷ 7 ∷ zeros 5) 3 ∷ [])) ≡ refused 16 0
  pub empty_first_not_0 : commitment (block (twos 1) (is (0 ∷ 0 ∷ replicate 7 1) (zeros 8) (7 ∷ 2 ∷ zeros 6) 2 ∷ [])) ≡ refused 16 0
  pub empty_after_slot : commitment (block (pushes 1) (numbered (1 ∷ 5 ∷ 7 ∷ zeros 5) 3 ∷ [])) ≡ refused 16 0
  pub empty_after_next : commitment (block (op 1 5 ∷ op 2 0 ∷ []) (is (0 ∷ 1 ∷ 1 ∷ replicate 6 2) (zeros 8) (1 ∷ 5 ∷ 2 ∷ 7 ∷ zeros 4) 4 ∷ [])) ≡ refused 16 0
  pub empty_later : commitment (block (twos 2) (single ∷ numbered (2 ∷ 7 ∷ zeros 6) 2 ∷ [])) ≡ refused 16 1
  -- what commitment does not look at: numbers from the count on, flags, values of kind 2
  pub from_count_on : commitment (block (twos 1) (numbered (2 ∷ 7 ∷ zeros 6) 1 ∷ [])) ≡ good tt
  pub flags_unseen : commitment (block (twos 1) (flagged (replicate 8 1) ∷ [])) ≡ good tt
  pub kind_2_unseen : commitment (block (op 3 7 ∷ []) (numbered (3 ∷ zeros 7) 1 ∷ [])) ≡ good tt
  -- its order: in a group number, all placings, all values; group by group; then the empty groups; batch by batch
  pub number_before_slot : commitment (block (pushes 1) (numbered (2 ∷ 5 ∷ zeros 6) 1 ∷ [])) ≡ refused 16 0
  pub slot_before_value : commitment (block (op 1 5 ∷ op 1 6 ∷ []) (is (0 ∷ replicate 8 2) (zeros 8) (129 ∷ 7 ∷ zeros 6) 2 ∷ [])) ≡ refused 8 0
  pub taken_before_value : commitment (block (op 1 5 ∷ op 1 6 ∷ op 2 0 ∷ []) (is (0 ∷ 2 ∷ 2 ∷ replicate 6 3) (zeros 8) (129 ∷ 7 ∷ 2 ∷ zeros 5) 3 ∷ [])) ≡ refused 9 0
  pub taken_before_next : commitment (block (op 1 5 ∷ op 2 0 ∷ []) (is (0 ∷ 1 ∷ replicate 7 2) (zeros 8) (1 ∷ 3 ∷ zeros 6) 2 ∷ [])) ≡ refused 9 0
  pub value_before_next : commitment (block (op 1 5 ∷ op 1 5 ∷ []) (is (0 ∷ 1 ∷ 1 ∷ replicate 6 2) (zeros 8) (1 ∷ 7 ∷ 1 ∷ zeros 5) 3 ∷ [])) ≡ refused 16 0
  pub slot_before_empty : commitment (block (pushes 1) (is (0 ∷ 0 ∷ replicate 7 1) (zeros 8) (7 ∷ 1 ∷ zeros 6) 2 ∷ [])) ≡ refused 8 0
  pub empty_before_next : commitment (block (op 2 0 ∷ op 1 5 ∷ []) (numbered (2 ∷ 7 ∷ zeros 6) 2 ∷ numbered (1 ∷ zeros 7) 1 ∷ [])) ≡ refused 16 0

-- ---- "Lookups and tables"

abbrev pub placed : ℕ → ℕ → Answer (Option Place)
placed g p = good (some (record { group = g; place = p }))

-- three groups, of 8, 2 and 1, with an empty one before the last
abbrev pub three : Record
three = is (0 ∷ 8 ∷ 10 ∷ 10 ∷ replicate 5 11) (0 ∷ 1 ∷ 0 ∷ 1 ∷ zeros 4) (1134765260439810 ∷ 1 ∷ 5 ∷ zeros 5) 4

-- nine in the last of eight groups, and none before
abbrev pub last : Record
last = is (zeros 8 ++ (9 ∷ [])) (zeros 8) (zeros 7 ++ (145249953336295682 ∷ [])) 8

pub record OfLookups : Type 0 where
  -- an operation's group: the first, the last of a group, the next, over an empty group, past the end
  pub group_0 : group_lookup 8 three 0 ≡ placed 0 0
  pub group_7 : group_lookup 8 three 7 ≡ placed 0 7
  pub group_8 : group_lookup 8 three 8 ≡ placed 1 0
  pub group_9 : group_lookup 8 three 9 ≡ placed 1 1
  pub group_10 : group_lookup 8 three 10 ≡ placed 3 0
  pub group_end : group_lookup 8 three 11 ≡ good none
  pub group_largest : group_lookup 8 three 18446744073709551615 ≡ good none
  pub group_last : group_lookup 8 last 8 ≡ placed 7 8
  pub group_past : group_lookup 8 last 9 ≡ good none
  pub group_of_none : group_lookup 8 nothing 0 ≡ good none
  -- the next operation group
  pub next_0 : next_lookup 8 three 0 ≡ good (some 1)
  pub next_1 : next_lookup 8 three 1 ≡ good (some 3)
  pub next_2 : next_lookup 8 three 2 ≡ good (some 3)
  pub next_3 : next_lookup 8 three 3 ≡ good none
  pub next_6 : next_lookup 8 last 6 ≡ good (some 7)
  pub next_7 : next_lookup 8 last 7 ≡ good none
  pub next_largest : next_lookup 8 last 18446744073709551615 ≡ good none
  pub next_of_none : next_lookup 8 nothing 0 ≡ good none
  pub under_the_count : next_group (is (0 ∷ 1 ∷ replicate 7 2) (zeros 8) (zeros 8) 1) 0 ≡ none
  -- a record that fails structure
  pub count_9 : (group_lookup 8 (is (zeros 9) (zeros 8) (zeros 8) 9) 0 ≡ refused 15 0) × (next_lookup 8 (is (zeros 9) (zeros 8) (zeros 8) 9) 0 ≡ refused 15 0)
  pub flag_2 : (group_lookup 8 (flagged (2 ∷ zeros 7)) 0 ≡ refused 15 0) × (next_lookup 8 (flagged (2 ∷ zeros 7)) 0 ≡ refused 15 0)
  pub first_start : (group_lookup 8 (is (replicate 9 1) (zeros 8) (zeros 8) 0) 0 ≡ refused 15 0) × (next_lookup 8 (is (replicate 9 1) (zeros 8) (zeros 8) 0) 0 ≡ refused 15 0)
  pub falling : (group_lookup 8 (is (0 ∷ 2 ∷ 1 ∷ replicate 6 2) (zeros 8) (zeros 8) 3) 0 ≡ refused 15 0) × (next_lookup 8 (is (0 ∷ 2 ∷ 1 ∷ replicate 6 2) (zeros 8) (zeros 8) 3) 0 ≡ refused 15 0)
  pub ten : (group_lookup 8 (is (0 ∷ replicate 8 10) (zeros 8) (zeros 8) 1) 0 ≡ refused 15 0) × (next_lookup 8 (is (0 ∷ replicate 8 10) (zeros 8) (zeros 8) 1) 0 ≡ refused 15 0)
  pub count_short : (group_lookup 8 (is (0 ∷ 1 ∷ replicate 7 2) (zeros 8) (zeros 8) 1) 0 ≡ refused 15 0) × (next_lookup 8 (is (0 ∷ 1 ∷ replicate 7 2) (zeros 8) (zeros 8) 1) 0 ≡ refused 15 0)
  -- the tables: paddings in two batches, in groups 1 and 3, none, a caller's own Noop
  pub raw_7 : raw_tabled 8 (lent p7more) 9 ≡ good (zeros 7 ++ (1 ∷ 2 ∷ []))
  pub padded_7 : padded_tabled 8 (lent p7more) 11 ≡ good (zeros 8 ++ (1 ∷ 1 ∷ 2 ∷ []))
  pub raw_6 : raw_tabled 8 (lent p6) 10 ≡ good (zeros 9 ++ (2 ∷ []))
  pub padded_6 : padded_tabled 8 (lent p6) 12 ≡ good (zeros 10 ++ (1 ∷ 2 ∷ []))
  pub raw_own : raw_tabled 8 (lent (block (op 2 0 ∷ op 0 0 ∷ []) (is (0 ∷ replicate 8 2) (zeros 8) (2 ∷ zeros 7) 1 ∷ []))) 3 ≡ good (zeros 3)
  pub raw_empty : raw_tabled 8 (lent (block [] [])) 1 ≡ good (0 ∷ [])
  pub padded_empty : padded_tabled 8 (lent (block [] [])) 1 ≡ good (0 ∷ [])
  pub raw_short : raw_tabled 8 (lent p7more) 8 ≡ refused 13 0
  pub padded_short : padded_tabled 8 (lent p7more) 10 ≡ refused 13 0
  pub no_room : (raw_tabled 8 (lent (block [] [])) 0 ≡ refused 13 0) × (padded_tabled 8 (lent (block [] [])) 0 ≡ refused 13 0)
  -- index lookups: every entry, one past the last, no entries, an entry greater than the index, a sum at the largest index and over it
  pub to_padded : (padded_index (0 ∷ 1 ∷ []) (raw_at 0) ≡ some (padded_at 0)) × (padded_index (0 ∷ 1 ∷ []) (raw_at 1) ≡ some (padded_at 2)) × (padded_index (0 ∷ 1 ∷ []) (raw_at 2) ≡ none) × (padded_index [] (raw_at 0) ≡ none)
  pub to_raw : (raw_index (0 ∷ 0 ∷ 1 ∷ []) (padded_at 1) ≡ some (raw_at 1)) × (raw_index (0 ∷ 0 ∷ 1 ∷ []) (padded_at 2) ≡ some (raw_at 1)) × (raw_index (0 ∷ 0 ∷ 1 ∷ []) (padded_at 3) ≡ none) × (raw_index [] (padded_at 0) ≡ none)
  pub entry_greater : (raw_index (0 ∷ 1 ∷ []) (padded_at 1) ≡ some (raw_at 0)) × (raw_index (0 ∷ 2 ∷ []) (padded_at 1) ≡ none) × (raw_index (1 ∷ []) (padded_at 0) ≡ none)
  pub sum_largest : (padded_index (0 ∷ 18446744073709551614 ∷ []) (raw_at 1) ≡ some (padded_at 18446744073709551615)) × (padded_index (0 ∷ 18446744073709551615 ∷ []) (raw_at 1) ≡ none)

-- ---- "Numbers of refusal", the orders: an example named 3-14 has both faults and gets the first; one with a single number has that bound's two sides

abbrev pub head : List Op → ℕ → Head
head xs k = record { ops = xs; batches = k }

-- two opcodes with one value, and a record that fails structure
abbrev pub unequal : Arena
unequal = arena (2 ∷ 2 ∷ []) (0 ∷ []) (records_bytes (flagged (2 ∷ zeros 7) ∷ []))

pub record OfOrders : Type 0 where
  -- "Build: 3, 14, 12, 4, 13."
  pub build_3_14 : built 8 [] (2 ∷ 2 ∷ []) (0 ∷ []) ample ≡ refused 3 0
  pub build_3_12 : built 8 table_t [] (0 ∷ []) ample ≡ refused 3 0
  pub build_14_12 : built 8 [] [] [] ample ≡ refused 14 0
  pub build_14_4 : built 8 [] (4 ∷ []) (0 ∷ []) ample ≡ refused 14 0
  pub build_12_13 : built 8 table_t [] [] (room 0 0 0) ≡ refused 12 0
  pub build_12 : build [] ≡ refused 12 0
  pub build_4_13 : built 8 table_t (2 ∷ 4 ∷ []) (0 ∷ 0 ∷ []) (room 0 0 0) ≡ refused 4 1
  pub build_13 : (built 8 table_t (1 ∷ []) (5 ∷ []) (room 2 2 1) ≡ good p1) × (built 8 table_t (1 ∷ []) (5 ∷ []) (room 1 2 1) ≡ refused 13 0) × (built 8 table_t (1 ∷ []) (5 ∷ []) (room 2 1 1) ≡ refused 13 0) × (built 8 table_t (1 ∷ []) (5 ∷ []) (room 2 2 0) ≡ refused 13 0)
  -- "Encode: 3, 14, 1, 15, 4, 13"
  pub encode_3_14 : encoded 8 [] unequal 1000 0 ≡ refused 3 0
  pub encode_size_14 : encoded 8 [] (lent p1) 1048577 0 ≡ refused 3 0
  pub encode_14_1 : encoded 8 [] (lent p1) 20 21 ≡ refused 14 0
  pub encode_1_15 : encoded 8 table_t (lent (block (twos 2) (single ∷ []))) 20 21 ≡ refused 1 0
  pub encode_15_4 : encoded 8 table_t (lent (block (op 4 0 ∷ op 2 0 ∷ []) (single ∷ []))) 1000 0 ≡ refused 15 1
  pub encode_15_later : encoded 8 table_t (lent (block (op 4 0 ∷ op 2 0 ∷ []) (single ∷ flagged (2 ∷ zeros 7) ∷ []))) 1000 0 ≡ refused 15 1
  pub encode_4_13 : encoded 8 table_t (lent (block (op 2 0 ∷ op 4 0 ∷ []) (single ∷ single ∷ []))) 0 0 ≡ refused 4 1
  pub encode_13 : (encoded 8 table_t (lent p1) 20 0 ≡ good p2) × (encoded 8 table_t (lent p1) 19 0 ≡ refused 13 0) × (encoded 8 table_t (lent p1) 25 5 ≡ good p2) × (encoded 8 table_t (lent p1) 24 5 ≡ refused 13 0)
  pub encode_at_end : encoded 8 table_t (lent p1) 20 20 ≡ refused 13 0
  -- encode does not look at numbers, padding or the count's power
  pub encode_unseen : write (block (twos 1) (is (0 ∷ replicate 8 1) (1 ∷ zeros 7) (9 ∷ 9 ∷ zeros 6) 3 ∷ [])) ≡ good (laid 1 (2 ∷ []) 1 (low 1) (1 ∷ []))
  -- "Decode: 3 (buffer), 14, 1, then count (2, 3, 13), operations in order (unassigned opcode 4 before missing value bytes 2)": 3 before 14 and 1 is `bytes_1048577`
  pub decode_14_1 : decoded 8 [] p2 21 ample ≡ refused 14 0
  pub decode_1 : read [] 1 ≡ refused 1 0
  pub decode_3_13 : decoded 8 table_t (0xfe ∷ 0x01 ∷ []) 0 (room 0 0 0) ≡ refused 3 0
  pub decode_2_13 : decoded 8 table_t [] 0 (room 0 0 0) ≡ refused 2 0
  pub decode_13_4 : decoded 8 table_t (3 ∷ 4 ∷ []) 0 (room 0 0 0) ≡ refused 13 0
  pub decode_4_2 : read (3 ∷ 4 ∷ []) 0 ≡ refused 4 0
  pub decode_first : read (5 ∷ 1 ∷ (over ++ (4 ∷ []))) 0 ≡ refused 17 0
  -- "batch count (2, 5, 3, 13), all nibbles, all flags, then batch by batch 7, 8 or 9, 10, and 11": 5 before 3, 3 before 13 are `five_first`, `read_16385`
  pub decode_4_5 : decoded 8 table_t (3 ∷ 4 ∷ 9 ∷ 0 ∷ 0 ∷ 0 ∷ []) 0 (room 9 9 0) ≡ refused 4 0
  pub decode_5_13 : decoded 8 table_t (1 ∷ 1 ∷ 0 ∷ 0 ∷ 0 ∷ []) 0 (room 9 9 0) ≡ refused 5 0
  pub decode_13_6 : decoded 8 table_t (laid 0 [] 1 (low 10) (0 ∷ [])) 0 (room 9 9 0) ≡ refused 13 0
  pub decode_6_7 : read (laid 1 (2 ∷ []) 2 (low 2 ++ low 10) (0 ∷ 0 ∷ [])) 0 ≡ refused 6 1
  pub decode_7_8 : read (laid 1 push 1 (high 0x20) (0 ∷ [])) 0 ≡ refused 7 0
  pub decode_8_10 : read (laid 1 push 1 (high 0x10) (0x80 ∷ [])) 0 ≡ refused 8 0
  pub decode_9_10 : read (laid 2 (push ++ (2 ∷ [])) 1 (low 0x11) (1 ∷ [])) 0 ≡ refused 9 0
  pub decode_8_7 : read (laid 1 push 2 (high 0x10 ++ low 1) (0 ∷ 0 ∷ [])) 0 ≡ refused 8 0
  pub decode_10_7 : read (laid 1 (2 ∷ []) 2 (low 1 ++ low 1) (1 ∷ 0 ∷ [])) 0 ≡ refused 10 0
  pub decode_10_9 : read (laid 3 (2 ∷ (push ++ (2 ∷ []))) 2 (low 1 ++ low 0x11) (1 ∷ 0 ∷ [])) 0 ≡ refused 10 0
  pub decode_8_11 : read (laid 2 (push ++ (2 ∷ [])) 1 (high 0x10) (0 ∷ [])) 0 ≡ refused 8 0
  pub decode_10_11 : read (laid 2 (2 ∷ 2 ∷ []) 1 (low 1) (1 ∷ [])) 0 ≡ refused 10 0
  -- a reader's steps and a block's head: 3, 14, 1, then the item; the head has room for any block
  pub count_3_1 : (s : List ℕ) → length s ≡ 1048577 → count_here s 1048578 ≡ refused 3 0
  pub count_limit : (s : List ℕ) → length s ≡ 1048576 → count_here s 1048577 ≡ refused 1 0
  pub count_here_lem : (count_here p2 0 ≡ found 2 1) × (count_here p2 20 ≡ refused 2 20) × (count_here p2 21 ≡ refused 1 0)
  pub op_3_14 : (s : List ℕ) → length s ≡ 1048577 → op_here [] s 1048578 0 ≡ refused 3 0
  pub op_limit : (s : List ℕ) → length s ≡ 1048576 → op_here table_t s 1048577 0 ≡ refused 1 0
  pub op_14_1 : op_here [] p2 21 0 ≡ refused 14 0
  pub op_here_lem : (op_here table_t p2 1 7 ≡ found (op 1 5) 10) × (op_here table_t p2 20 7 ≡ refused 2 20) × (op_here table_t p2 21 7 ≡ refused 1 0) × (op_here table_t (4 ∷ []) 0 7 ≡ refused 4 7) × (op_here table_t (2 ∷ []) 0 7 ≡ found (op 2 0) 1)
  pub head_3_14 : (s : List ℕ) → length s ≡ 1048577 → headed [] s 1048578 ≡ refused 3 0
  pub head_limit : (s : List ℕ) → length s ≡ 1048576 → headed table_t s 1048577 ≡ refused 1 0
  pub head_14_1 : headed [] p2 21 ≡ refused 14 0
  pub head_here : (headed table_t p2 0 ≡ found (head p1.ops 1) 15) × (headed table_t p2 20 ≡ refused 2 20) × (headed table_t p2 21 ≡ refused 1 0)
  pub head_65535 : headed table_t (0xfc ∷ 0xff ∷ 0x07 ∷ []) 0 ≡ refused 2 3
  pub head_16384 : (s : List ℕ) → length s ≡ 81920 → headed table_t (1 ∷ 0x00 ∷ 0x40 ∷ 0 ∷ 0 ∷ s) 0 ≡ found (head [] 16384) 5
  -- "Tables: 3, 15, 10, 13."
  pub table_3_15 : (raw_tabled 8 unequal 0 ≡ refused 3 0) × (padded_tabled 8 unequal 0 ≡ refused 3 0)
  pub table_15_10 : raw_tabled 8 (lent (block (twos 2) (flagged (1 ∷ zeros 7) ∷ []))) 0 ≡ refused 15 1
  pub table_10_13 : raw_tabled 8 (lent (block (twos 2) (single ∷ flagged (1 ∷ zeros 7) ∷ []))) 0 ≡ refused 10 1
  -- "Checks: structure 3, 15; padding 3, 15, 10; commitment 3, 14, 15, 4, then batch by batch the first fault"
  pub structure_3_15 : structure_checked 8 unequal ≡ refused 3 0
  pub padding_3_15 : padding_checked 8 unequal ≡ refused 3 0
  pub padding_15_10 : padding (block (twos 2) (flagged (1 ∷ zeros 7) ∷ [])) ≡ refused 15 1
  pub commitment_3_14 : commitment_checked 8 [] unequal ≡ refused 3 0
  pub commitment_14_15 : commitment_checked 8 [] (lent (block (twos 2) (single ∷ []))) ≡ refused 14 0
  pub commitment_15_4 : commitment (block (op 4 0 ∷ op 2 0 ∷ []) (single ∷ [])) ≡ refused 15 1
  pub commitment_4_16 : commitment (block (op 2 0 ∷ op 4 0 ∷ []) (numbered (3 ∷ zeros 7) 1 ∷ single ∷ [])) ≡ refused 4 1

-- ---- what is left in the lent outputs

-- the bytes of P1's record
abbrev pub p1record : List ℕ
p1record = (0 ∷ replicate 8 2) ++ ((1 ∷ zeros 7) ++ ((1 ∷ zeros 7) ++ ((5 ∷ zeros 7) ++ (zeros 48 ++ (2 ∷ [])))))

abbrev pub told : ℕ → ℕ → Totals
told b n = record { batches = b; operations = n }

pub record OfOutputs : Type 0 where
  -- a record's 82 bytes
  pub record_bytes_lem :
      records_bytes (is (0 ∷ 1 ∷ 2 ∷ 3 ∷ 4 ∷ 5 ∷ 6 ∷ 7 ∷ 8 ∷ []) (1 ∷ 0 ∷ 1 ∷ 1 ∷ 0 ∷ 0 ∷ 0 ∷ 1 ∷ []) (258 ∷ 3 ∷ 4 ∷ 5 ∷ 6 ∷ 7 ∷ 8 ∷ 72623859790382856 ∷ []) 8 ∷ [])
      ≡ (0 ∷ 1 ∷ 2 ∷ 3 ∷ 4 ∷ 5 ∷ 6 ∷ 7 ∷ 8 ∷ 1 ∷ 0 ∷ 1 ∷ 1 ∷ 0 ∷ 0 ∷ 0 ∷ 1 ∷ 2 ∷ 1 ∷ zeros 6) ++ ((3 ∷ zeros 7) ++ ((4 ∷ zeros 7) ++ ((5 ∷ zeros 7) ++ ((6 ∷ zeros 7) ++ ((7 ∷ zeros 7) ++ ((8 ∷ zeros 7) ++ (8 ∷ 7 ∷ 6 ∷ 5 ∷ 4 ∷ 3 ∷ 2 ∷ 1 ∷ 8 ∷ [])))))))
  pub block_in_lem : block_in (lent p7more) ≡ p7more
  -- room: only whole records count
  pub room_in_lem : room_in (arena (zeros 3) (zeros 2) (zeros 163)) ≡ room 3 2 1
  pub room_for_two : room_in (arena [] [] (zeros 164)) ≡ room 0 0 2
  pub room_for_none : room_in (arena [] [] (zeros 81)) ≡ room 0 0 0
  -- content, then zeros; bytes left over are zeroed too
  pub build_leaves : filled (arena (replicate 3 7) (replicate 4 7) (replicate 85 7)) (leaves no_block (build (op 1 5 ∷ []))) ≡ arena (1 ∷ 0 ∷ 0 ∷ []) (5 ∷ 0 ∷ 0 ∷ 0 ∷ []) (p1record ++ zeros 3)
  pub build_refused : filled (arena (replicate 3 7) (replicate 4 7) (replicate 85 7)) (leaves no_block (build (op 4 0 ∷ []))) ≡ arena (zeros 3) (zeros 4) (zeros 85)
  pub decode_leaves : filled (arena (replicate 3 7) (replicate 4 7) (replicate 85 7)) (leaves no_block (item_of (read p2 0))) ≡ arena (1 ∷ 0 ∷ 0 ∷ []) (5 ∷ 0 ∷ 0 ∷ 0 ∷ []) (p1record ++ zeros 3)
  pub decode_refused : filled (arena (replicate 3 7) (replicate 4 7) (replicate 85 7)) (leaves no_block (item_of (read p2 1))) ≡ arena (zeros 3) (zeros 4) (zeros 85)
  pub table_leaves : table_left (replicate 4 7) (raw_tabled 8 (lent p1) 4) ≡ 0 ∷ 1 ∷ 0 ∷ 0 ∷ []
  pub table_refused : table_left (7 ∷ []) (raw_tabled 8 (lent p1) 1) ≡ 0 ∷ []
  -- the lengths and totals of a reply, 0 where it refuses
  pub totals_told : (totals (leaves no_block (build (pushes 8))) ≡ told 2 10) × (totals (leaves no_block (build [])) ≡ told 0 0)
  pub length_told_lem : (length_told (write p1) ≡ 20) × (length_told (encoded 8 table_t (lent p1) 19 0) ≡ 0)
  pub bytes_used : (used 2 (read ((7 ∷ 7 ∷ []) ++ (p2 ++ (7 ∷ []))) 2) ≡ 20) × (used 2 (read p2 2) ≡ 0)
  -- encode writes only the block's bytes, and none where it refuses
  pub encode_leaves : written (replicate 24 7) 3 (encoded 8 table_t (lent p1) 24 3) ≡ replicate 3 7 ++ (p2 ++ (7 ∷ []))
  pub encode_refused : written (replicate 22 7) 3 (encoded 8 table_t (lent p1) 22 3) ≡ replicate 22 7

-- ---- M-100: "The padding check and the decoder now keep such a bit unread, the encoder writes it back, and the tables go on ignoring it."

-- a batch of no operations, and one of an operation of opcode 1 and a Noop, with these flags
abbrev pub bare_flagged : List ℕ → Record
bare_flagged fs = is (zeros 9) fs (zeros 8) 0

abbrev pub p1flagged : List ℕ → Block
p1flagged fs = block p1.ops (is (0 ∷ replicate 8 2) fs (1 ∷ 5 ∷ zeros 6) 2 ∷ [])

-- P1's flag, and all from the count on
abbrev pub above : List ℕ
above = 1 ∷ 0 ∷ replicate 6 1

-- eight groups of one operation, each a Noop but the i-th; all flagged
abbrev pub noops_but : ℕ → List Op
noops_but i = replicate i (op 0 0) ++ (op 2 0 ∷ replicate (7 - i) (op 0 0))

abbrev pub eight_flagged : Record
eight_flagged = is (0 ∷ 1 ∷ 2 ∷ 3 ∷ 4 ∷ 5 ∷ 6 ∷ 7 ∷ 8 ∷ []) (replicate 8 1) (zeros 8) 8

abbrev pub to_seven : List ℕ
to_seven = 0 ∷ 1 ∷ 2 ∷ 3 ∷ 4 ∷ 5 ∷ 6 ∷ 7 ∷ []

pub record OfKept : Type 0 where
  -- read, and written again: a batch without groups, the first bit from the count on, the last one, all of them
  pub of_none :
      (read (0x01 ∷ 0x01 ∷ 0 ∷ 0 ∷ 0 ∷ 0 ∷ 0 ∷ 0 ∷ 0 ∷ 0x01 ∷ []) 0 ≡ found (block [] (bare_flagged (1 ∷ zeros 7) ∷ [])) 10)
      × (write (block [] (bare_flagged (1 ∷ zeros 7) ∷ [])) ≡ good (0x01 ∷ 0x01 ∷ 0 ∷ 0 ∷ 0 ∷ 0 ∷ 0 ∷ 0 ∷ 0 ∷ 0x01 ∷ []))
  pub at_count :
      (read (laid 1 (2 ∷ []) 1 (low 1) (0x02 ∷ [])) 0 ≡ found (block (twos 1) (flagged (0 ∷ 1 ∷ zeros 6) ∷ [])) 11)
      × (write (block (twos 1) (flagged (0 ∷ 1 ∷ zeros 6) ∷ [])) ≡ good (laid 1 (2 ∷ []) 1 (low 1) (0x02 ∷ [])))
  pub last :
      (read (laid 1 (2 ∷ []) 1 (low 1) (0x80 ∷ [])) 0 ≡ found (block (twos 1) (flagged (zeros 7 ++ (1 ∷ [])) ∷ [])) 11)
      × (write (block (twos 1) (flagged (zeros 7 ++ (1 ∷ [])) ∷ [])) ≡ good (laid 1 (2 ∷ []) 1 (low 1) (0x80 ∷ [])))
  pub all_above :
      (read (laid 2 (push ++ (0 ∷ [])) 1 (low 2) (0xfd ∷ [])) 0 ≡ found (p1flagged above) 20)
      × (write (p1flagged above) ≡ good (laid 2 (push ++ (0 ∷ [])) 1 (low 2) (0xfd ∷ [])))
  -- in two batches, each its own
  pub in_two :
      (read (laid 2 (2 ∷ 2 ∷ []) 2 (low 1 ++ low 1) (0x02 ∷ 0x10 ∷ [])) 0 ≡ found (block (twos 2) (flagged (0 ∷ 1 ∷ zeros 6) ∷ flagged (zeros 4 ++ (1 ∷ zeros 3)) ∷ [])) 17)
      × (write (block (twos 2) (flagged (0 ∷ 1 ∷ zeros 6) ∷ flagged (zeros 4 ++ (1 ∷ zeros 3)) ∷ [])) ≡ good (laid 2 (2 ∷ 2 ∷ []) 2 (low 1 ++ low 1) (0x02 ∷ 0x10 ∷ [])))
  -- what comes later is looked for: 11; the same batch's flags under the count; the next batch
  pub then_11 : read (0x03 ∷ 0x02 ∷ 0x01 ∷ 0 ∷ 0 ∷ 0 ∷ 0 ∷ 0 ∷ 0 ∷ 0 ∷ 0x01 ∷ []) 0 ≡ refused 11 0
  pub then_10 : read (laid 1 (2 ∷ []) 1 (low 1) (0x03 ∷ [])) 0 ≡ refused 10 0
  pub then_7 : read (laid 1 (2 ∷ []) 2 (low 1 ++ low 1) (0x02 ∷ 0 ∷ [])) 0 ≡ refused 7 1
  pub then_10_later : read (laid 2 (2 ∷ 2 ∷ []) 2 (low 1 ++ low 1) (0x02 ∷ 0x01 ∷ [])) 0 ≡ refused 10 1
  -- the last group under the count: it has an immediate, or an operation that is no Noop; and an empty one before it
  pub slot_under : read (laid 2 (push ++ (0 ∷ [])) 1 (low 2) (0xff ∷ [])) 0 ≡ refused 10 0
  pub group_under : read (laid 2 (2 ∷ 2 ∷ []) 1 (low 0x11) (0x06 ∷ [])) 0 ≡ refused 10 0
  pub each_under : map (λ (i : ℕ). read (laid 8 (codes (noops_but i)) 1 (replicate 4 0x11) (0xff ∷ [])) 0) to_seven ≡ replicate 8 (refused 10 0)
  pub eighth_under : read (laid 1 (2 ∷ []) 1 (high 0x10) (0x80 ∷ [])) 0 ≡ refused 10 0
  pub eight_right :
      (read (laid 8 (zeros 8) 1 (replicate 4 0x11) (0xff ∷ [])) 0 ≡ found (block (replicate 8 (op 0 0)) (eight_flagged ∷ [])) 18)
      × (write (block (replicate 8 (op 0 0)) (eight_flagged ∷ [])) ≡ good (laid 8 (zeros 8) 1 (replicate 4 0x11) (0xff ∷ [])))
  pub empty_under : read (laid 2 (2 ∷ 2 ∷ []) 1 (0x01 ∷ 0x01 ∷ 0 ∷ 0 ∷ []) (0x0a ∷ [])) 0 ≡ refused 10 0
  -- at a width of 4, from the count up to the width
  pub width_kept : decoded 4 table_t (laid 1 (2 ∷ []) 1 (low 1) (0x0e ∷ [])) 0 ample ≡ found (block (twos 1) (flagged (0 ∷ 1 ∷ 1 ∷ 1 ∷ zeros 4) ∷ [])) 11
  -- the padding check
  pub check_of_none : padding (block [] (bare_flagged (replicate 8 1) ∷ [])) ≡ good tt
  pub check_at_count : padding (block (twos 1) (flagged (0 ∷ 1 ∷ zeros 6) ∷ [])) ≡ good tt
  pub check_last : padding (block (twos 1) (flagged (zeros 7 ++ (1 ∷ [])) ∷ [])) ≡ good tt
  pub check_all_above : (structure (p1flagged above) ≡ good tt) × (padding (p1flagged above) ≡ good tt) × (commitment (p1flagged above) ≡ good tt)
  pub check_under : padding (p1flagged (replicate 8 1)) ≡ refused 10 0
  pub check_empty_under : padding (block (twos 1) (is (0 ∷ replicate 8 1) (0 ∷ 1 ∷ zeros 6) (2 ∷ zeros 7) 2 ∷ [])) ≡ refused 10 0
  pub check_each : map (λ (i : ℕ). padding (block (noops_but i) (eight_flagged ∷ []))) to_seven ≡ replicate 8 (refused 10 0)
  pub check_eighth : padding (block (twos 1) (is (zeros 8 ++ (1 ∷ [])) (zeros 7 ++ (1 ∷ [])) (zeros 7 ++ (2 ∷ [])) 8 ∷ [])) ≡ refused 10 0
  pub check_later : padding (block (twos 2) (flagged (0 ∷ 1 ∷ zeros 6) ∷ flagged (1 ∷ 1 ∷ zeros 6) ∷ [])) ≡ refused 10 1
  -- a flag is 0 or 1 there too
  pub flag_two : (structure (block [] (bare_flagged (2 ∷ zeros 7) ∷ [])) ≡ refused 15 0) × (padding (block [] (bare_flagged (2 ∷ zeros 7) ∷ [])) ≡ refused 15 0)
  -- the tables and the lookups are those of P1
  pub raw_table_lem : raw_tabled 8 (lent (p1flagged above)) 2 ≡ good (0 ∷ 1 ∷ [])
  pub padded_table_lem : padded_tabled 8 (lent (p1flagged above)) 3 ≡ good (0 ∷ 0 ∷ 1 ∷ [])
  pub no_table : raw_tabled 8 (lent (block [] (bare_flagged (replicate 8 1) ∷ []))) 1 ≡ good (0 ∷ [])
  pub group : group_lookup 8 (is (0 ∷ replicate 8 2) above (1 ∷ 5 ∷ zeros 6) 2) 1 ≡ good (some (record { group = 0; place = 1 }))
  pub next : next_lookup 8 (is (0 ∷ replicate 8 2) above (1 ∷ 5 ∷ zeros 6) 2) 0 ≡ good none
  -- "Batches we build still have those bits clear"
  pub built_clear : build (op 1 5 ∷ []) ≡ good (p1flagged (1 ∷ zeros 7))

-- ---- M-101: "Opcode is looked at first, then missing bytes (2), then 17. Build, encode, decode and the commitment check pass it on; all other orders stand."

-- the faults of an opcode under T with the values 0, 1, the field's size less 1, and the field's size
abbrev pub faults_of : ℕ → List ℕ
faults_of c = map (λ (v : ℕ). op_fault table_t (op c v)) (0 ∷ 1 ∷ 18446744069414584320 ∷ 18446744069414584321 ∷ [])

-- two operations, each in a batch of its own
abbrev pub pair : Op → Op → Block
pair x y = block (x ∷ y ∷ []) (single ∷ single ∷ [])

pub record OfFaults : Type 0 where
  -- one operation: what value its kind may have; and the opcode goes before the value
  pub kind_0 : faults_of 2 ≡ 0 ∷ 17 ∷ 17 ∷ 17 ∷ []
  pub noop : faults_of 0 ≡ 0 ∷ 17 ∷ 17 ∷ 17 ∷ []
  pub kind_1 : faults_of 1 ≡ 0 ∷ 0 ∷ 0 ∷ 17 ∷ []
  pub kind_2 : faults_of 3 ≡ 0 ∷ 0 ∷ 0 ∷ 17 ∷ []
  pub kind_3 : faults_of 4 ≡ replicate 4 4
  pub opcode_128 : faults_of 128 ≡ replicate 4 4
  pub last_opcode : (op_fault (0 ∷ replicate 127 1) (op 127 18446744069414584321) ≡ 17) × (op_fault (0 ∷ replicate 127 1) (op 128 18446744069414584321) ≡ 4) × (op_fault (zeros 200) (op 128 0) ≡ 4)
  -- a value on kind 0, the field's size under kinds 1 and 2, and one below it
  pub build_0 : build (op 2 0 ∷ op 2 1 ∷ []) ≡ refused 17 1
  pub build_1 : build (op 2 0 ∷ op 1 18446744069414584321 ∷ []) ≡ refused 17 1
  pub build_2 : build (op 2 0 ∷ op 3 18446744069414584321 ∷ []) ≡ refused 17 1
  pub build_below : build (op 3 18446744069414584320 ∷ op 1 18446744069414584320 ∷ op 2 0 ∷ [])
      ≡ good (block (op 3 18446744069414584320 ∷ op 1 18446744069414584320 ∷ op 2 0 ∷ []) (is (0 ∷ replicate 8 3) (zeros 8) (32899 ∷ 18446744069414584320 ∷ zeros 6) 2 ∷ []))
  pub encode_0 : write (pair (op 2 0) (op 2 1)) ≡ refused 17 1
  pub encode_1 : write (pair (op 2 0) (op 1 18446744069414584321)) ≡ refused 17 1
  pub encode_2 : write (pair (op 2 0) (op 3 18446744069414584321)) ≡ refused 17 1
  pub encode_below : write (pair (op 1 18446744069414584320) (op 3 18446744069414584320)) ≡ good (laid 2 ((1 ∷ top) ++ (3 ∷ top)) 2 (low 1 ++ low 1) (0 ∷ 0 ∷ []))
  pub commitment_0 : commitment (pair (op 2 0) (op 2 1)) ≡ refused 17 1
  pub commitment_1 : commitment (pair (op 2 0) (op 1 18446744069414584321)) ≡ refused 17 1
  pub commitment_2 : commitment (pair (op 2 0) (op 3 18446744069414584321)) ≡ refused 17 1
  pub commitment_below : commitment (block (op 1 18446744069414584320 ∷ op 3 18446744069414584320 ∷ []) (numbered (1 ∷ 18446744069414584320 ∷ zeros 6) 2 ∷ numbered (3 ∷ zeros 7) 1 ∷ [])) ≡ good tt
  -- an opcode of 128 or of kind 3 with a value that is wrong too
  pub build_both : (build (op 2 0 ∷ op 128 1 ∷ []) ≡ refused 4 1) × (build (op 2 0 ∷ op 4 18446744069414584321 ∷ []) ≡ refused 4 1)
  pub encode_both : (write (pair (op 2 0) (op 128 1)) ≡ refused 4 1) × (write (pair (op 2 0) (op 4 18446744069414584321)) ≡ refused 4 1)
  pub commitment_both : (commitment (pair (op 2 0) (op 128 1)) ≡ refused 4 1) × (commitment (pair (op 2 0) (op 4 18446744069414584321)) ≡ refused 4 1)
  -- of two operations at fault the first, with its own number: 17 before 4, 4 before 17
  pub build_17_4 : build (op 2 0 ∷ op 2 1 ∷ op 4 0 ∷ []) ≡ refused 17 1
  pub build_4_17 : build (op 2 0 ∷ op 4 0 ∷ op 2 1 ∷ []) ≡ refused 4 1
  pub encode_17_4 : write (pair (op 2 1) (op 4 0)) ≡ refused 17 0
  pub encode_4_17 : write (pair (op 4 0) (op 2 1)) ≡ refused 4 0
  pub commitment_17_4 : commitment (pair (op 2 1) (op 4 0)) ≡ refused 17 0
  pub commitment_4_17 : commitment (pair (op 4 0) (op 2 1)) ≡ refused 4 0
  pub decode_17_4 : read (7 ∷ 2 ∷ 1 ∷ (over ++ (4 ∷ []))) 0 ≡ refused 17 1
  pub decode_4_17 : read (7 ∷ 2 ∷ 4 ∷ 1 ∷ over) 0 ≡ refused 4 1
  pub head_17_4 : headed table_t (7 ∷ 2 ∷ 3 ∷ (over ++ (4 ∷ []))) 0 ≡ refused 17 1
  pub head_4_17 : headed table_t (7 ∷ 2 ∷ 4 ∷ 3 ∷ over) 0 ≡ refused 4 1
  -- one operation in bytes, number 7: kind 3 or 128 with no byte after it, and with a wrong value; kinds 1 and 2 with a byte missing, and whole; kind 0 has none
  pub op_opcode : (op_here table_t (4 ∷ []) 0 7 ≡ refused 4 7) × (op_here table_t (128 ∷ []) 0 7 ≡ refused 4 7) × (op_here table_t (4 ∷ over) 0 7 ≡ refused 4 7) × (op_here table_t (128 ∷ over) 0 7 ≡ refused 4 7)
  pub op_cut : (op_here table_t (1 ∷ replicate 7 255) 0 7 ≡ refused 2 0) × (op_here table_t (9 ∷ 3 ∷ replicate 7 255) 1 7 ≡ refused 2 1)
  pub op_value : (op_here table_t (1 ∷ over) 0 7 ≡ refused 17 7) × (op_here table_t (9 ∷ 3 ∷ over) 1 7 ≡ refused 17 7)
  pub op_below : (op_here table_t (1 ∷ top) 0 7 ≡ found (op 1 18446744069414584320) 9) × (op_here table_t (9 ∷ 3 ∷ top) 1 7 ≡ found (op 3 18446744069414584320) 10)
  pub op_plain : op_here table_t (2 ∷ over) 0 7 ≡ found (op 2 0) 1
  -- "all other orders stand": build 3, 14, 12, 17, 13; encode 3, 14, 1, 15, 17, 13; decode 3, 14, 13, 17, then 2, 5 and 13; head and reader 3, 14, 17;
  -- commitment 3, 14, 15, 17, 16. For 14 the table is T without its last byte.
  pub build_3_17 : built 8 table_t (2 ∷ []) (1 ∷ 0 ∷ []) ample ≡ refused 3 0
  pub build_14_17 : built 8 (but_last table_t) (2 ∷ []) (1 ∷ []) ample ≡ refused 14 0
  pub build_17_13 : built 8 table_t (2 ∷ 2 ∷ []) (0 ∷ 1 ∷ []) (room 0 0 0) ≡ refused 17 1
  pub encode_3_17 : encoded 8 table_t (arena (2 ∷ []) (1 ∷ 0 ∷ []) (records_bytes (single ∷ []))) 1000 0 ≡ refused 3 0
  pub encode_14_17 : encoded 8 (but_last table_t) (lent (pair (op 2 0) (op 2 1))) 1000 0 ≡ refused 14 0
  pub encode_1_17 : encoded 8 table_t (lent (pair (op 2 0) (op 2 1))) 20 21 ≡ refused 1 0
  pub encode_15_17 : write (block (op 2 1 ∷ op 2 0 ∷ []) (single ∷ [])) ≡ refused 15 1
  pub encode_17_13 : encoded 8 table_t (lent (pair (op 2 0) (op 2 1))) 0 0 ≡ refused 17 1
  pub decode_3_17 : (s : List ℕ) → length s ≡ 1048567 → decoded 8 table_t (3 ∷ 1 ∷ (over ++ s)) 0 ample ≡ refused 3 0
  pub decode_14_17 : decoded 8 (but_last table_t) (3 ∷ 1 ∷ over) 0 ample ≡ refused 14 0
  pub decode_13_17 : decoded 8 table_t (3 ∷ 1 ∷ over) 0 (room 0 0 0) ≡ refused 13 0
  pub decode_17_cut : read (5 ∷ 1 ∷ (over ++ (1 ∷ replicate 7 255))) 0 ≡ refused 17 0
  pub decode_17_2 : read (5 ∷ 1 ∷ over) 0 ≡ refused 17 0
  pub decode_17_5 : decoded 8 table_t (3 ∷ 1 ∷ (over ++ (9 ∷ 0 ∷ 0 ∷ 0 ∷ []))) 0 (room 9 9 0) ≡ refused 17 0
  pub decode_17_13 : decoded 8 table_t (laid 1 (1 ∷ over) 1 (low 1) (0 ∷ [])) 0 (room 9 9 0) ≡ refused 17 0
  pub head_3_17 : (s : List ℕ) → length s ≡ 1048567 → headed table_t (3 ∷ 1 ∷ (over ++ s)) 0 ≡ refused 3 0
  pub head_14_17 : headed (but_last table_t) (3 ∷ 1 ∷ over) 0 ≡ refused 14 0
  pub op_3_17 : (s : List ℕ) → length s ≡ 1048568 → op_here table_t (1 ∷ (over ++ s)) 0 7 ≡ refused 3 0
  pub op_14_17 : op_here (but_last table_t) (1 ∷ over) 0 7 ≡ refused 14 0
  pub commitment_3_17 : commitment_checked 8 table_t (arena (2 ∷ []) (1 ∷ 0 ∷ []) (records_bytes (single ∷ []))) ≡ refused 3 0
  pub commitment_14_17 : commitment_checked 8 (but_last table_t) (lent (pair (op 2 0) (op 2 1))) ≡ refused 14 0
  pub commitment_15_17 : commitment (block (op 2 1 ∷ op 2 0 ∷ []) (single ∷ [])) ≡ refused 15 1
  pub commitment_17_16 : commitment (block (op 2 0 ∷ op 2 1 ∷ []) (numbered (3 ∷ zeros 7) 1 ∷ single ∷ [])) ≡ refused 17 1
  -- what looks at no value: structure, padding, the tables
  pub unlooked : (structure (pair (op 2 1) (op 4 0)) ≡ good tt) × (padding (pair (op 2 1) (op 4 0)) ≡ good tt) × (raw_tabled 8 (lent (pair (op 2 1) (op 4 0))) 3 ≡ good (zeros 3)) × (padded_tabled 8 (lent (pair (op 2 1) (op 4 0))) 3 ≡ good (zeros 3))

-- ---- M-107: "a block the decoder takes passes exactly if some .. list .. writes those very bytes", else "a new 18 with the first batch that differs"

abbrev pub strict : List ℕ → ℕ → Read Block
strict s at = strictly_decoded 8 table_t s at ample

-- how much decode takes from bytes
abbrev pub size : List ℕ → Totals
size s = totals (leaves no_block (item_of (read s 0)))

-- bytes: eight of opcode 1, with the paddings of their two batches
abbrev pub eight_pushes : List ℕ
eight_pushes = push ++ (push ++ (push ++ (push ++ (push ++ (push ++ (push ++ (0 ∷ (push ++ (0 ∷ [])))))))))

-- bytes: 37 of opcode 2, 36 of them in a batch of four groups
abbrev pub wide_as4 : List ℕ
wide_as4 = laid 37 (replicate 37 2) 2 ((0x99 ∷ 0x99 ∷ 0 ∷ 0 ∷ []) ++ low 1) (0 ∷ 0 ∷ [])

pub record OfStrict : Type 0 where
  -- finished blocks pass, at any offset, into as much room as decode needs; a Noop of the caller's own stays in the list
  pub P1 : strict p2 0 ≡ found p1 20
  pub P1-within : strict ((7 ∷ 7 ∷ []) ++ (p2 ++ (7 ∷ []))) 2 ≡ found p1 22
  pub P1-room : strictly_decoded 8 table_t p2 0 (room 2 2 1) ≡ found p1 20
  pub P6 : strict (laid 11 (replicate 8 2 ++ (push ++ (0 ∷ 0 ∷ []))) 1 (0x28 ∷ 0x10 ∷ 0 ∷ 0 ∷ []) (0x0a ∷ [])) 0 ≡ found p6 29
  pub P7-more : strict (laid 10 eight_pushes 2 (low 8 ++ low 2) (1 ∷ 1 ∷ [])) 0 ≡ found p7more 89
  pub own_noop : strict (laid 1 (0 ∷ []) 1 (low 1) (0 ∷ [])) 0 ≡ found (block (op 0 0 ∷ []) (is (0 ∷ replicate 8 1) (zeros 8) (zeros 8) 1 ∷ [])) 11
  pub own_noop_last : strict (laid 2 (2 ∷ 0 ∷ []) 1 (low 2) (0 ∷ [])) 0 ≡ found (block (op 2 0 ∷ op 0 0 ∷ []) (is (0 ∷ replicate 8 2) (zeros 8) (2 ∷ zeros 7) 1 ∷ [])) 12
  pub noop_after_push : strict (laid 2 (push ++ (0 ∷ [])) 1 (low 2) (0 ∷ [])) 0 ≡ found (block p1.ops (is (0 ∷ replicate 8 2) (zeros 8) (1 ∷ 5 ∷ zeros 6) 2 ∷ [])) 20
  -- "the block's own list, flagged padding dropped": a flag at or above the count drops nothing, and what no record covers stays
  pub own_list_lem : (own_list p6 ≡ twos 8 ++ (op 1 5 ∷ [])) × (own_list p7more ≡ pushes 8) × (own_list (p1flagged above) ≡ op 1 5 ∷ [])
  pub own_rest : own_list (block (twos 3) (single ∷ [])) ≡ twos 3
  -- the own list is empty: no batch, one without operations, padding alone; the place is 0, also where a later batch is the first that differs
  pub empty_block : (read (laid 0 [] 0 [] []) 0 ≡ found no_block 5) × (strict (laid 0 [] 0 [] []) 0 ≡ refused 18 0)
  pub empty_batch : (size (bare 0 (low 0)) ≡ told 1 0) × (strict (bare 0 (low 0)) 0 ≡ refused 18 0)
  pub empty_batches : (size (laid 0 [] 2 (low 0 ++ low 0) (0 ∷ 0 ∷ [])) ≡ told 2 0) × (strict (laid 0 [] 2 (low 0 ++ low 0) (0 ∷ 0 ∷ [])) 0 ≡ refused 18 0)
  pub padding_alone : (size (laid 1 (0 ∷ []) 1 (low 1) (1 ∷ [])) ≡ told 1 1) × (strict (laid 1 (0 ∷ []) 1 (low 1) (1 ∷ [])) 0 ≡ refused 18 0)
  pub padding_and_empty : (size (laid 1 (0 ∷ []) 2 (low 1 ++ low 0) (1 ∷ 0 ∷ [])) ≡ told 2 1) × (strict (laid 1 (0 ∷ []) 2 (low 1 ++ low 0) (1 ∷ 0 ∷ [])) 0 ≡ refused 18 0)
  -- 16,384 operations, and one more: of every block with so many (crates/replay/data/limits.txt has two)
  pub list_16384 : (b : Block) (r : Answer Unit) → length (own_list b) ≡ 16384 → refuse_unfinished 8 table_t b r ≡ refuse_first 0 (differing b.records (map record_of (batches_of 8 table_t (own_list b)))) r
  pub list_16385 : (b : Block) (r : Answer Unit) → length (own_list b) ≡ 16385 → refuse_unfinished 8 table_t b r ≡ refused 18 0
  pub read_16385 : (s : List ℕ) (b : Block) (next : ℕ) → read s 0 ≡ found b next → length (own_list b) ≡ 16385 → strict s 0 ≡ refused 18 0
  pub list_1 : (b : Block) (r : Answer Unit) → length (own_list b) ≡ 1 → refuse_unfinished 8 table_t b r ≡ refuse_first 0 (differing b.records (map record_of (batches_of 8 table_t (own_list b)))) r
  -- an empty batch: the first, in the middle, at the end ("an extra batch counting as different"), one of padding alone
  pub empty_first : (size (laid 1 (2 ∷ []) 2 (low 0 ++ low 1) (0 ∷ 0 ∷ [])) ≡ told 2 1) × (strict (laid 1 (2 ∷ []) 2 (low 0 ++ low 1) (0 ∷ 0 ∷ [])) 0 ≡ refused 18 0)
  pub empty_middle : (size (laid 10 eight_pushes 3 (low 8 ++ (low 0 ++ low 2)) (1 ∷ 0 ∷ 1 ∷ [])) ≡ told 3 10) × (strict (laid 10 eight_pushes 3 (low 8 ++ (low 0 ++ low 2)) (1 ∷ 0 ∷ 1 ∷ [])) 0 ≡ refused 18 1)
  pub empty_last_lem : (size (laid 10 eight_pushes 3 (low 8 ++ (low 2 ++ low 0)) (1 ∷ 1 ∷ 0 ∷ [])) ≡ told 3 10) × (strict (laid 10 eight_pushes 3 (low 8 ++ (low 2 ++ low 0)) (1 ∷ 1 ∷ 0 ∷ [])) 0 ≡ refused 18 2)
  pub empty_after_p1 : (size (laid 2 (push ++ (0 ∷ [])) 2 (low 2 ++ low 0) (1 ∷ 0 ∷ [])) ≡ told 2 2) × (strict (laid 2 (push ++ (0 ∷ [])) 2 (low 2 ++ low 0) (1 ∷ 0 ∷ [])) 0 ≡ refused 18 1)
  pub two_after_p1 : (size (laid 2 (push ++ (0 ∷ [])) 3 (low 2 ++ (low 0 ++ low 0)) (1 ∷ 0 ∷ 0 ∷ [])) ≡ told 3 2) × (strict (laid 2 (push ++ (0 ∷ [])) 3 (low 2 ++ (low 0 ++ low 0)) (1 ∷ 0 ∷ 0 ∷ [])) 0 ≡ refused 18 1)
  pub padding_after_p1 : (size (laid 3 (push ++ (0 ∷ 0 ∷ [])) 2 (low 2 ++ low 1) (1 ∷ 1 ∷ [])) ≡ told 2 3) × (strict (laid 3 (push ++ (0 ∷ 0 ∷ [])) 2 (low 2 ++ low 1) (1 ∷ 1 ∷ [])) 0 ≡ refused 18 1)
  -- a stray empty group under the count: before the operations, between them, in a later batch; a count that is no power of two
  pub stray_first : (size (bare 1 (low 0x10)) ≡ told 1 1) × (strict (bare 1 (low 0x10)) 0 ≡ refused 18 0)
  pub stray_between : (size (laid 10 (replicate 10 2) 1 (0x09 ∷ 0x01 ∷ 0 ∷ 0 ∷ []) (0 ∷ [])) ≡ told 1 10) × (strict (laid 10 (replicate 10 2) 1 (0x09 ∷ 0x01 ∷ 0 ∷ 0 ∷ []) (0 ∷ [])) 0 ≡ refused 18 0)
  pub stray_later : (size (laid 10 eight_pushes 2 (low 8 ++ low 0x20) (1 ∷ 2 ∷ [])) ≡ told 2 10) × (strict (laid 10 eight_pushes 2 (low 8 ++ low 0x20) (1 ∷ 2 ∷ [])) 0 ≡ refused 18 1)
  pub three_groups_lem : (size (laid 19 (replicate 19 2) 1 (0x99 ∷ 0x01 ∷ 0 ∷ 0 ∷ []) (0 ∷ [])) ≡ told 1 19) × (strict (laid 19 (replicate 19 2) 1 (0x99 ∷ 0x01 ∷ 0 ∷ 0 ∷ []) (0 ∷ [])) 0 ≡ refused 18 0)
  -- "a bit kept under M-100": at the count, the last, all above, in a later batch, in an empty one that is there too many
  pub kept_at_count : (size (laid 1 (2 ∷ []) 1 (low 1) (0x02 ∷ [])) ≡ told 1 1) × (strict (laid 1 (2 ∷ []) 1 (low 1) (0x02 ∷ [])) 0 ≡ refused 18 0)
  pub kept_last : (size (laid 1 (2 ∷ []) 1 (low 1) (0x80 ∷ [])) ≡ told 1 1) × (strict (laid 1 (2 ∷ []) 1 (low 1) (0x80 ∷ [])) 0 ≡ refused 18 0)
  pub kept_all : (size (laid 2 (push ++ (0 ∷ [])) 1 (low 2) (0xfd ∷ [])) ≡ told 1 2) × (strict (laid 2 (push ++ (0 ∷ [])) 1 (low 2) (0xfd ∷ [])) 0 ≡ refused 18 0)
  pub kept_later : (size (laid 10 eight_pushes 2 (low 8 ++ low 2) (1 ∷ 0x05 ∷ [])) ≡ told 2 10) × (strict (laid 10 eight_pushes 2 (low 8 ++ low 2) (1 ∷ 0x05 ∷ [])) 0 ≡ refused 18 1)
  pub kept_and_empty : (size (laid 2 (push ++ (0 ∷ [])) 2 (low 2 ++ low 0) (1 ∷ 1 ∷ [])) ≡ told 2 2) × (strict (laid 2 (push ++ (0 ∷ [])) 2 (low 2 ++ low 0) (1 ∷ 1 ∷ [])) 0 ≡ refused 18 1)
  -- a Noop flagged where the batcher would not have padded, a group of padding alone, and a padding that is missing
  pub flagged_noop : (size (laid 2 (2 ∷ 0 ∷ []) 1 (low 2) (1 ∷ [])) ≡ told 1 2) × (strict (laid 2 (2 ∷ 0 ∷ []) 1 (low 2) (1 ∷ [])) 0 ≡ refused 18 0)
  pub padding_group : (size (laid 10 (replicate 9 2 ++ (0 ∷ [])) 1 (low 0x19) (2 ∷ [])) ≡ told 1 10) × (strict (laid 10 (replicate 9 2 ++ (0 ∷ [])) 1 (low 0x19) (2 ∷ [])) 0 ≡ refused 18 0)
  pub no_padding : (size (laid 1 push 1 (low 1) (0 ∷ [])) ≡ told 1 1) × (strict (laid 1 push 1 (low 1) (0 ∷ [])) 0 ≡ refused 18 0)
  -- a group closed early, and late; a batch closed early, the first and a later one
  pub group_early : (size (bare 9 (low 0x18)) ≡ told 1 9) × (strict (bare 9 (low 0x18)) 0 ≡ refused 18 0)
  pub group_late : (size (laid 9 (replicate 8 2 ++ push) 1 (low 9) (0 ∷ [])) ≡ told 1 9) × (strict (laid 9 (replicate 8 2 ++ push) 1 (low 9) (0 ∷ [])) 0 ≡ refused 18 0)
  pub batch_early : (size (laid 2 (2 ∷ 2 ∷ []) 2 (low 1 ++ low 1) (0 ∷ 0 ∷ [])) ≡ told 2 2) × (strict (laid 2 (2 ∷ 2 ∷ []) 2 (low 1 ++ low 1) (0 ∷ 0 ∷ [])) 0 ≡ refused 18 0)
  pub batch_early_later : (size (laid 11 (eight_pushes ++ (2 ∷ [])) 3 (low 8 ++ (low 2 ++ low 1)) (1 ∷ 1 ∷ 0 ∷ [])) ≡ told 3 11) × (strict (laid 11 (eight_pushes ++ (2 ∷ [])) 3 (low 8 ++ (low 2 ++ low 1)) (1 ∷ 1 ∷ 0 ∷ [])) 0 ≡ refused 18 1)
  -- where numbers and counts are the same, for all operations are Noops: one flag, and the last of nine starts
  pub flag_alone : (size (laid 73 (zeros 73) 2 ((0x99 ∷ 0x99 ∷ 0x99 ∷ 0x99 ∷ []) ++ low 1) (1 ∷ 0 ∷ [])) ≡ told 2 73) × (strict (laid 73 (zeros 73) 2 ((0x99 ∷ 0x99 ∷ 0x99 ∷ 0x99 ∷ []) ++ low 1) (1 ∷ 0 ∷ [])) 0 ≡ refused 18 0)
  pub start_alone : (size (laid 72 (zeros 72) 2 ((0x99 ∷ 0x99 ∷ 0x99 ∷ 0x89 ∷ []) ++ low 1) (0 ∷ 0 ∷ [])) ≡ told 2 72) × (strict (laid 72 (zeros 72) 2 ((0x99 ∷ 0x99 ∷ 0x99 ∷ 0x89 ∷ []) ++ low 1) (0 ∷ 0 ∷ [])) 0 ≡ refused 18 0)
  -- batch data of an older list: eleven of opcode 2 in groups of 8 and 3, and under the starts and flags of two of opcode 1 and nine of opcode 2, which pass with their own operations
  pub stale : (size (bare 11 (low 0x38)) ≡ told 1 11) × (strict (bare 11 (low 0x38)) 0 ≡ refused 18 0)
  pub fresh : item_of (strict (laid 11 (push ++ (push ++ replicate 9 2)) 1 (0x09 ∷ 0x20 ∷ 0 ∷ 0 ∷ []) (0 ∷ [])) 0) ≡ build (pushes 2 ++ twos 9)
  pub stale_of_fresh : (size (laid 11 (replicate 11 2) 1 (0x09 ∷ 0x20 ∷ 0 ∷ 0 ∷ []) (0 ∷ [])) ≡ told 1 11) × (strict (laid 11 (replicate 11 2) 1 (0x09 ∷ 0x20 ∷ 0 ∷ 0 ∷ []) (0 ∷ [])) 0 ≡ refused 18 0)
  -- "Otherwise the ordinary refusal comes if there is one": of P1 cut short; and each before 18, where the first batch was closed early
  pub cut_value : strict (0x05 ∷ 0x01 ∷ 0x05 ∷ []) 0 ≡ refused 2 1
  pub cut_batch : strict (but_last p2) 0 ≡ refused 5 0
  pub order_3 : (s : List ℕ) → length s ≡ 1048577 → strict s 0 ≡ refused 3 0
  pub order_14 : strictly_decoded 8 (zeros 127) (laid 2 (2 ∷ 2 ∷ []) 2 (low 1 ++ low 1) (0 ∷ 0 ∷ [])) 0 ample ≡ refused 14 0
  pub order_1 : strict (laid 2 (2 ∷ 2 ∷ []) 2 (low 1 ++ low 1) (0 ∷ 0 ∷ [])) 18 ≡ refused 1 0
  pub order_13 : (strictly_decoded 8 table_t (laid 2 (2 ∷ 2 ∷ []) 2 (low 1 ++ low 1) (0 ∷ 0 ∷ [])) 0 (room 1 2 2) ≡ refused 13 0) × (strictly_decoded 8 table_t (laid 2 (2 ∷ 2 ∷ []) 2 (low 1 ++ low 1) (0 ∷ 0 ∷ [])) 0 (room 2 2 1) ≡ refused 13 0)
  pub order_4 : strict (laid 2 (2 ∷ 4 ∷ []) 2 (low 1 ++ low 1) (0 ∷ 0 ∷ [])) 0 ≡ refused 4 1
  pub order_17 : strict (laid 2 (2 ∷ 1 ∷ over) 2 (low 1 ++ low 1) (0 ∷ 0 ∷ [])) 0 ≡ refused 17 1
  pub order_2 : strict (laid 2 (2 ∷ 2 ∷ []) 2 (low 1 ++ low 1) (0 ∷ 0 ∷ [])) 17 ≡ refused 2 17
  pub order_2_value : strict (laid 2 (2 ∷ 1 ∷ 5 ∷ []) 0 [] []) 0 ≡ refused 2 2
  pub order_5 : strict (but_last (laid 2 (2 ∷ 2 ∷ []) 2 (low 1 ++ low 1) (0 ∷ 0 ∷ []))) 0 ≡ refused 5 0
  pub order_6 : strict (laid 2 (2 ∷ 2 ∷ []) 2 (low 1 ++ low 10) (0 ∷ 0 ∷ [])) 0 ≡ refused 6 1
  pub order_7 : strict (laid 2 (2 ∷ 2 ∷ []) 2 (low 1 ++ low 2) (0 ∷ 0 ∷ [])) 0 ≡ refused 7 1
  pub order_8 : strict (laid 2 (2 ∷ push) 2 (low 1 ++ high 0x10) (0 ∷ 0 ∷ [])) 0 ≡ refused 8 1
  pub order_9 : strict (laid 3 (2 ∷ (push ++ (2 ∷ []))) 2 (low 1 ++ low 0x11) (0 ∷ 0 ∷ [])) 0 ≡ refused 9 1
  pub order_10 : strict (laid 2 (2 ∷ 2 ∷ []) 2 (low 1 ++ low 1) (0 ∷ 1 ∷ [])) 0 ≡ refused 10 1
  pub order_11 : strict (laid 3 (2 ∷ 2 ∷ 2 ∷ []) 2 (low 1 ++ low 1) (0 ∷ 0 ∷ [])) 0 ≡ refused 11 0
  -- two batches are the same in starts, flags, numbers and count; an extra one on either side has nothing to be like
  pub alike : differing (single ∷ single ∷ []) (single ∷ single ∷ []) ≡ 0 ∷ 0 ∷ []
  pub other_starts : differing (single ∷ single ∷ []) (single ∷ is (0 ∷ 0 ∷ replicate 7 1) (zeros 8) (2 ∷ zeros 7) 1 ∷ []) ≡ 0 ∷ 18 ∷ []
  pub other_flags : differing (single ∷ single ∷ []) (flagged (zeros 7 ++ (1 ∷ [])) ∷ single ∷ []) ≡ 18 ∷ 0 ∷ []
  pub other_numbers : (differing (single ∷ []) (numbered (2 ∷ (zeros 6 ++ (1 ∷ []))) 1 ∷ []) ≡ 18 ∷ []) × (differing (single ∷ []) (numbered (3 ∷ zeros 7) 1 ∷ []) ≡ 18 ∷ [])
  pub other_count : (differing (single ∷ []) (numbered (2 ∷ zeros 7) 2 ∷ []) ≡ 18 ∷ []) × (differing (numbered (2 ∷ zeros 7) 2 ∷ []) (single ∷ []) ≡ 18 ∷ [])
  pub more_flags : (differing (single ∷ []) (flagged (zeros 9) ∷ []) ≡ 18 ∷ []) × (differing (single ∷ []) (flagged (zeros 7) ∷ []) ≡ 18 ∷ [])
  pub extra_read : (differing (single ∷ single ∷ []) (single ∷ []) ≡ 0 ∷ 18 ∷ []) × (differing (single ∷ []) [] ≡ 18 ∷ [])
  pub extra_built : (differing (single ∷ []) (single ∷ single ∷ []) ≡ 0 ∷ 18 ∷ []) × (differing [] (single ∷ []) ≡ 18 ∷ [])
  pub no_batches : differing [] [] ≡ []
  -- a list in batches of four groups is finished at a width of 4, and not at 8
  pub by_width : (strictly_decoded 4 table_t wide_as4 0 ample ≡ decoded 4 table_t wide_as4 0 ample) × (strict wide_as4 0 ≡ refused 18 0) × (used 0 (strictly_decoded 4 table_t wide_as4 0 ample) ≡ 52)
  pub width_ordinary : (strictly_decoded 4 table_t (bare 1 (0 ∷ 0 ∷ 1 ∷ 0 ∷ [])) 0 ample ≡ refused 6 0) × (strict (bare 1 (0 ∷ 0 ∷ 1 ∷ 0 ∷ [])) 0 ≡ refused 18 0)
  -- what is left and told: the block, then zeros; zeros alone and 0 where it is not finished
  pub leaves_block : filled (arena (replicate 3 7) (replicate 4 7) (replicate 85 7)) (leaves no_block (item_of (strict p2 0))) ≡ arena (1 ∷ 0 ∷ 0 ∷ []) (5 ∷ 0 ∷ 0 ∷ 0 ∷ []) (p1record ++ zeros 3)
  pub leaves_zeros : filled (arena (replicate 3 7) (replicate 4 7) (replicate 85 7)) (leaves no_block (item_of (strict (laid 1 (2 ∷ []) 1 (low 1) (0x02 ∷ [])) 0))) ≡ arena (zeros 3) (zeros 4) (zeros 85)
  pub used_told : (used 2 (strict ((7 ∷ 7 ∷ []) ++ (p2 ++ (7 ∷ []))) 2) ≡ 20) × (used 0 (strict (laid 1 (2 ∷ []) 1 (low 1) (0x02 ∷ [])) 0) ≡ 0)

-- ---- M-105: "Two blocks, each with its own offset and table. Report, in order .."

-- where bytes are read under table T: from a place on, with ample room
abbrev pub from : ℕ → List ℕ → Side
from at s = record { table = table_t; bytes = s; at = at; room = ample }

abbrev pub under : List ℕ → List ℕ → Side
under t s = record { table = t; bytes = s; at = 0; room = ample }

abbrev pub into : Room → List ℕ → Side
into space s = record { table = table_t; bytes = s; at = 0; room = space }

-- two blocks from the first byte on, with room for a hundred entries
abbrev pub compare : List ℕ → List ℕ → Compared
compare s₁ s₂ = compared 8 (from 0 s₁) (from 0 s₂) 100

-- table T with opcode 1 of kind 2: a value carried and not placed
abbrev pub table_c : List ℕ
table_c = 0 ∷ 2 ∷ 0 ∷ 2 ∷ replicate 124 3

-- bytes: operation 1 with a value; P1 with its Noop unflagged
abbrev pub push_of : ℕ → List ℕ
push_of v = 1 ∷ v ∷ zeros 7

abbrev pub unflagged : List ℕ
unflagged = laid 2 (push ++ (0 ∷ [])) 1 (low 2) (0 ∷ [])

abbrev pub six : List ℕ
six = laid 2 (push_of 6 ++ (0 ∷ [])) 1 (low 2) (1 ∷ [])

-- bytes: two of operation 1 in one batch, with these values
abbrev pub two_pushes : ℕ → ℕ → List ℕ
two_pushes u v = laid 3 (push_of u ++ (push_of v ++ (0 ∷ []))) 1 (low 3) (1 ∷ [])

-- bytes: one, two and three batches of one operation of opcode 2; no batch
abbrev pub one : List ℕ
one = bare 1 (low 1)

abbrev pub two : List ℕ
two = laid 2 (2 ∷ 2 ∷ []) 2 (low 1 ++ low 1) (zeros 2)

abbrev pub more : List ℕ
more = laid 3 (2 ∷ 2 ∷ 2 ∷ []) 3 (low 1 ++ (low 1 ++ low 1)) (zeros 3)

abbrev pub none_there : List ℕ
none_there = laid 0 [] 0 [] []

-- bytes: P1's batch, and one with an operation of opcode 2 more before the padding
abbrev pub longer : List ℕ
longer = laid 5 (push ++ (0 ∷ (push ++ (2 ∷ 0 ∷ [])))) 2 (low 2 ++ low 3) (1 ∷ 1 ∷ [])

-- bytes: an operation of opcode 2, and one of opcode 3 in a batch of its own, whose value is carried
abbrev pub carried : ℕ → List ℕ
carried v = laid 2 (2 ∷ 3 ∷ v ∷ zeros 7) 2 (low 1 ++ low 1) (zeros 2)

-- bytes: an operation in group 4
abbrev pub fifth : List ℕ
fifth = bare 1 (0 ∷ 0 ∷ 1 ∷ 0 ∷ [])

pub record OfCompare : Type 0 where
  -- nothing differs: a block and itself, also at another place and with no room for an entry; blocks of no batch
  pub P1-itself : compare p2 p2 ≡ reported []
  pub P1-within : compared 8 (from 2 ((7 ∷ 7 ∷ []) ++ (p2 ++ (7 ∷ [])))) (from 0 p2) 0 ≡ reported []
  pub P1-first-within : compared 8 (from 0 p2) (from 1 (7 ∷ p2)) 0 ≡ reported []
  pub long_itself : compare longer longer ≡ reported []
  pub empty_itself : compare none_there none_there ≡ reported []
  -- one value: the number of group 1, and operation 0
  pub value_6 : compare p2 six ≡ reported (entry_at 1 0 1 ∷ entry_at 4 0 0 ∷ [])
  -- the Noop unflagged is one raw operation more and one padding less
  pub noop_unflagged : compare p2 unflagged ≡ reported (entry_at 2 0 0 ∷ entry_by 9 (pos 1) ∷ entry_by 10 (negsuc 0) ∷ [])
  pub noop_flagged : compare unflagged p2 ≡ reported (entry_at 2 0 0 ∷ entry_by 9 (negsuc 0) ∷ entry_by 10 (pos 1) ∷ [])
  -- "a batch that only one block has is reported as missing on the other side": none of the five others for it
  pub more_second : compare one two ≡ reported (entry_at 6 1 1 ∷ entry_by 7 (pos 1) ∷ entry_by 8 (pos 1) ∷ entry_by 9 (pos 1) ∷ [])
  pub more_first : compare two one ≡ reported (entry_at 6 1 2 ∷ entry_by 7 (negsuc 0) ∷ entry_by 8 (negsuc 0) ∷ entry_by 9 (negsuc 0) ∷ [])
  pub two_more_second : compare one more ≡ reported (entry_at 6 1 1 ∷ entry_at 6 2 1 ∷ entry_by 7 (pos 2) ∷ entry_by 8 (pos 2) ∷ entry_by 9 (pos 2) ∷ [])
  pub two_more_first : compare more one ≡ reported (entry_at 6 1 2 ∷ entry_at 6 2 2 ∷ entry_by 7 (negsuc 1) ∷ entry_by 8 (negsuc 1) ∷ entry_by 9 (negsuc 1) ∷ [])
  -- an empty batch against none
  pub empty_first : compare (bare 0 (low 0)) none_there ≡ reported (entry_at 6 0 2 ∷ entry_by 7 (negsuc 0) ∷ [])
  pub empty_second : compare none_there (bare 0 (low 0)) ≡ reported (entry_at 6 0 1 ∷ entry_by 7 (pos 1) ∷ [])
  -- totals of both signs and zero: a batch less, as many padded operations, a raw one more, a padding less; "In its turn" the missing batch is the second
  pub both_signs : compare (laid 2 (push ++ (0 ∷ [])) 2 (low 2 ++ low 0) (1 ∷ 0 ∷ [])) (bare 2 (low 2)) ≡ reported (entry_at 1 0 0 ∷ entry_at 2 0 0 ∷ entry_at 4 0 0 ∷ entry_at 5 0 0 ∷ entry_at 6 1 2 ∷ entry_by 7 (negsuc 0) ∷ entry_by 9 (pos 1) ∷ entry_by 10 (negsuc 0) ∷ [])
  -- the same bytes under two tables: the value is placed in a group, or it is not
  pub two_tables : compared 8 (from 0 p2) (under table_c p2) 100 ≡ reported (entry_at 1 0 1 ∷ entry_at 5 0 0 ∷ [])
  pub other_tables : compared 8 (under table_c p2) (from 0 p2) 100 ≡ reported (entry_at 1 0 1 ∷ entry_at 5 0 0 ∷ [])
  -- all five in each of two batches, in order, and three totals
  pub all_five : compare two longer ≡ reported (entry_at 1 0 0 ∷ entry_at 2 0 0 ∷ entry_at 3 0 0 ∷ entry_at 4 0 0 ∷ entry_at 5 0 0 ∷ entry_at 1 1 0 ∷ entry_at 2 1 0 ∷ entry_at 3 1 0 ∷ entry_at 4 1 0 ∷ entry_at 5 1 0 ∷ entry_by 8 (pos 3) ∷ entry_by 9 (pos 1) ∷ entry_by 10 (pos 2) ∷ [])
  -- "the first": of two numbers, two operations, two flags, two lengths; and a later one alone
  pub first_number : compare (two_pushes 5 5) (two_pushes 6 6) ≡ reported (entry_at 1 0 1 ∷ entry_at 4 0 0 ∷ [])
  pub later_number : compare (two_pushes 5 5) (two_pushes 5 6) ≡ reported (entry_at 1 0 2 ∷ entry_at 4 0 1 ∷ [])
  pub first_flag : compare one (laid 1 (2 ∷ []) 1 (low 1) (0x0c ∷ [])) ≡ reported (entry_at 2 0 2 ∷ [])
  pub first_length : compare (bare 3 (low 0x12)) (bare 3 (low 0x21)) ≡ reported (entry_at 1 0 0 ∷ entry_at 3 0 0 ∷ [])
  pub later_length : compare (bare 3 (0x11 ∷ 0x01 ∷ 0 ∷ 0 ∷ [])) (bare 3 (low 0x21)) ≡ reported (entry_at 1 0 1 ∷ entry_at 3 0 1 ∷ entry_at 5 0 0 ∷ [])
  -- all eight groups: a kept bit is looked at and is no padding; a group that only one has; an operation in the last group
  pub kept_last : compare one (laid 1 (2 ∷ []) 1 (low 1) (0x80 ∷ [])) ≡ reported (entry_at 2 0 7 ∷ [])
  pub group_more : compare one (bare 2 (low 0x11)) ≡ reported (entry_at 1 0 1 ∷ entry_at 3 0 1 ∷ entry_at 5 0 0 ∷ entry_by 8 (pos 1) ∷ entry_by 9 (pos 1) ∷ [])
  pub last_group : compare (bare 1 (high 0x01)) (bare 1 (high 0x10)) ≡ reported (entry_at 1 0 6 ∷ entry_at 3 0 6 ∷ entry_at 5 0 0 ∷ [])
  -- "at a place both have": an operation that only one has is not reported, and a Noop more in a group changes no number
  pub one_longer : compare one (bare 2 (low 2)) ≡ reported (entry_at 1 0 0 ∷ entry_at 3 0 0 ∷ entry_by 8 (pos 1) ∷ entry_by 9 (pos 1) ∷ [])
  pub longer_first : compare (bare 2 (low 2)) one ≡ reported (entry_at 1 0 0 ∷ entry_at 3 0 0 ∷ entry_by 8 (negsuc 0) ∷ entry_by 9 (negsuc 0) ∷ [])
  pub noop_more : compare one (laid 2 (2 ∷ 0 ∷ []) 1 (low 2) (0 ∷ [])) ≡ reported (entry_at 3 0 0 ∷ entry_by 8 (pos 1) ∷ entry_by 9 (pos 1) ∷ [])
  pub padding_more : compare one (laid 2 (2 ∷ 0 ∷ []) 1 (low 2) (1 ∷ [])) ≡ reported (entry_at 2 0 0 ∷ entry_at 3 0 0 ∷ entry_by 8 (pos 1) ∷ entry_by 10 (pos 1) ∷ [])
  -- what no record covers is in no batch
  pub covered : blocks_apart (block (twos 2) (single ∷ [])) (block (twos 1) (single ∷ [])) ≡ entry_by 8 (negsuc 0) ∷ entry_by 9 (negsuc 0) ∷ []
  -- "whose opcode or value differs": an opcode, and a value that no number shows, in the second batch, where the place is counted in the batch
  pub other_opcode : compare one (laid 1 (0 ∷ []) 1 (low 1) (0 ∷ [])) ≡ reported (entry_at 1 0 0 ∷ entry_at 4 0 0 ∷ [])
  pub other_value : compare (carried 7) (carried 8) ≡ reported (entry_at 4 1 0 ∷ [])
  pub later_opcode : compare (laid 3 (2 ∷ 2 ∷ 2 ∷ []) 2 (low 1 ++ low 2) (zeros 2)) (laid 3 (2 ∷ 2 ∷ 0 ∷ []) 2 (low 1 ++ low 2) (zeros 2)) ≡ reported (entry_at 1 1 0 ∷ entry_at 4 1 1 ∷ [])
  -- a place is counted in the batch, paddings among them, whatever groups the two have, and from the start of each side's own batch
  pub after_padding : compare (laid 3 (2 ∷ 0 ∷ 2 ∷ []) 1 (low 0x12) (1 ∷ [])) (laid 3 (2 ∷ 0 ∷ 0 ∷ []) 1 (low 0x12) (1 ∷ [])) ≡ reported (entry_at 1 0 1 ∷ entry_at 4 0 2 ∷ [])
  pub padding_there : compare (laid 2 (2 ∷ 0 ∷ []) 1 (low 2) (1 ∷ [])) (bare 2 (low 2)) ≡ reported (entry_at 1 0 0 ∷ entry_at 2 0 0 ∷ entry_at 4 0 1 ∷ entry_by 9 (pos 1) ∷ entry_by 10 (negsuc 0) ∷ [])
  pub other_groups : compare (laid 2 (2 ∷ 0 ∷ []) 1 (low 0x11) (0 ∷ [])) (bare 2 (low 2)) ≡ reported (entry_at 1 0 0 ∷ entry_at 3 0 0 ∷ entry_at 4 0 1 ∷ entry_at 5 0 0 ∷ [])
  pub after_longer : compare two (laid 3 (2 ∷ 0 ∷ 2 ∷ []) 2 (low 2 ++ low 1) (zeros 2)) ≡ reported (entry_at 3 0 0 ∷ entry_by 8 (pos 1) ∷ entry_by 9 (pos 1) ∷ [])
  pub ninth_operation : compare (bare 9 (low 9)) (laid 9 (replicate 8 2 ++ (0 ∷ [])) 1 (low 9) (0 ∷ [])) ≡ reported (entry_at 1 0 0 ∷ entry_at 4 0 8 ∷ [])
  -- the last group alone; a missing batch with a padding; all eight flags
  pub last_alone : compare (bare 1 (high 0x10)) (bare 2 (high 0x20)) ≡ reported (entry_at 1 0 7 ∷ entry_at 3 0 7 ∷ entry_by 8 (pos 1) ∷ entry_by 9 (pos 1) ∷ [])
  pub padded_more : compare p2 (laid 4 (push ++ (0 ∷ (push ++ (0 ∷ [])))) 2 (low 2 ++ low 2) (1 ∷ 1 ∷ [])) ≡ reported (entry_at 6 1 1 ∷ entry_by 7 (pos 1) ∷ entry_by 8 (pos 2) ∷ entry_by 9 (pos 1) ∷ entry_by 10 (pos 1) ∷ [])
  pub paddings_eight : paddings_in (is (zeros 9) (replicate 8 1) (zeros 8) 8) ≡ 8
  -- "only its refusal is given, the first one's if both are, with a mark saying which block": by a lack of bytes, by offset, table and room
  pub first_refused : compare (3 ∷ 1 ∷ 5 ∷ []) p2 ≡ refused_by 1 2 1
  pub second_refused : compare p2 (3 ∷ 1 ∷ 5 ∷ []) ≡ refused_by 2 2 1
  pub both_refused : (compared 8 (from 0 (3 ∷ 1 ∷ 5 ∷ [])) (under (3 ∷ []) p2) 100 ≡ refused_by 1 2 1) × (compared 8 (under (3 ∷ []) p2) (from 0 (3 ∷ 1 ∷ 5 ∷ [])) 100 ≡ refused_by 1 14 0)
  pub past_end : (compared 8 (from 21 p2) (from 0 p2) 100 ≡ refused_by 1 1 0) × (compared 8 (from 0 p2) (from 21 p2) 100 ≡ refused_by 2 1 0)
  pub bad_table : (compared 8 (under (3 ∷ []) p2) (from 0 p2) 100 ≡ refused_by 1 14 0) × (compared 8 (from 0 p2) (under (3 ∷ []) p2) 100 ≡ refused_by 2 14 0)
  pub no_room : (compared 8 (into (room 1 2 1) p2) (from 0 p2) 100 ≡ refused_by 1 13 0) × (compared 8 (from 0 p2) (into (room 2 2 0) p2) 100 ≡ refused_by 2 13 0)
  pub just_room : compared 8 (into (room 2 2 1) p2) (into (room 2 2 1) p2) 0 ≡ reported []
  pub later_place : compare p2 (bare 10 (low 10)) ≡ refused_by 2 6 0
  -- "A lent report too short gives 13 last, without a mark": after every refusal of a block; one entry short, none short
  pub refused_before : (compared 8 (from 0 p2) (from 21 six) 0 ≡ refused_by 2 1 0) × (compared 8 (from 21 p2) (from 0 six) 0 ≡ refused_by 1 1 0)
  pub one_short : compared 8 (from 0 p2) (from 0 six) 1 ≡ refused_by 0 13 0
  pub none_short : compared 8 (from 0 p2) (from 0 six) 2 ≡ reported (entry_at 1 0 1 ∷ entry_at 4 0 0 ∷ [])
  pub nothing_lent : compared 8 (from 0 p2) (from 0 six) 0 ≡ refused_by 0 13 0
  -- "and ends zeroed"; the entries, then zeros, four numbers for each
  pub left_zeroed : (report_left 9 (refused_by 0 13 0) ≡ replicate 9 (pos 0)) × (report_left 2 (refused_by 1 2 3) ≡ replicate 2 (pos 0))
  pub left_nothing : report_left 3 (reported []) ≡ replicate 3 (pos 0)
  pub left_entries : report_left 9 (compare p2 six) ≡ pos 1 ∷ pos 0 ∷ pos 1 ∷ pos 0 ∷ pos 4 ∷ pos 0 ∷ pos 0 ∷ pos 0 ∷ pos 0 ∷ []
  pub left_batch : report_left 4 (compare (carried 7) (carried 8)) ≡ pos 4 ∷ pos 1 ∷ pos 0 ∷ pos 0 ∷ []
  pub left_missing : report_left 8 (compare none_there (bare 0 (low 0))) ≡ pos 6 ∷ pos 0 ∷ pos 1 ∷ pos 0 ∷ pos 7 ∷ pos 0 ∷ pos 0 ∷ pos 1 ∷ []
  pub left_size : length (entry_numbers (entry_at 1 2 3)) ≡ entry_size
  pub left_difference : report_left 4 (reported (entry_by 10 (negsuc 0) ∷ [])) ≡ pos 10 ∷ pos 0 ∷ pos 0 ∷ negsuc 0 ∷ []
  pub left_fields : report_left 5 (reported (record { kind = 4; batch = 3; place = 2; difference = pos 1 } ∷ [])) ≡ pos 4 ∷ pos 3 ∷ pos 2 ∷ pos 1 ∷ pos 0 ∷ []
  -- the totals of a block; "only flags under the group count are paddings"
  pub totals_p7 : (batch_total p7more ≡ 2) × (padded_total p7more ≡ 10) × (raw_total p7more ≡ 8) × (padding_total p7more ≡ 2)
  pub totals_p6 : (batch_total p6 ≡ 1) × (padded_total p6 ≡ 11) × (raw_total p6 ≡ 9) × (padding_total p6 ≡ 2)
  pub paddings_under : (paddings_in (flagged (1 ∷ 1 ∷ zeros 6)) ≡ 1) × (paddings_in (flagged (0 ∷ replicate 7 1)) ≡ 0) × (paddings_in nothing ≡ 0)
  -- by width: what four groups do not hold is refused
  pub by_width : (compared 4 (from 0 p2) (from 0 p2) 0 ≡ reported []) × (compared 4 (from 0 fifth) (from 0 p2) 100 ≡ refused_by 1 6 0) × (compared 4 (from 0 p2) (from 0 fifth) 100 ≡ refused_by 2 6 0)
  pub width_8 : compare fifth one ≡ reported (entry_at 1 0 0 ∷ entry_at 3 0 0 ∷ entry_at 5 0 0 ∷ [])

-- ---- "Numbers to check": "proved of the rules, together as a single table under one claim"

pub record Numbers : Type 0 where
  pub P1 : build (op 1 5 ∷ []) ≡ good p1
  pub P2-written : write p1 ≡ good p2
  pub P2-read : read p2 0 ≡ found p1 20
  pub P2-within : read ((7 ∷ 7 ∷ []) ++ (p2 ++ (7 ∷ []))) 2 ≡ found p1 22
  pub P3-raw : raw_tabled 8 (lent p1) 10 ≡ good (0 ∷ 1 ∷ [])
  pub P3-padded : padded_tabled 8 (lent p1) 10 ≡ good (0 ∷ 0 ∷ 1 ∷ [])
  pub P4 : build (twos 9) ≡ good (block (twos 9) (is (0 ∷ replicate 8 9) (zeros 8) (145249953336295682 ∷ zeros 7) 1 ∷ []))
  pub P5 : build (twos 19) ≡ good (block (twos 19 ++ (op 0 0 ∷ [])) (is (0 ∷ 9 ∷ 18 ∷ 19 ∷ replicate 5 20) (0 ∷ 0 ∷ 0 ∷ 1 ∷ zeros 4) (145249953336295682 ∷ 145249953336295682 ∷ 2 ∷ zeros 5) 4 ∷ []))
  pub P6 : build (twos 8 ++ (op 1 5 ∷ [])) ≡ good p6
  pub P7 : build (pushes 7) ≡ good (block (pushes 7 ++ (op 0 0 ∷ [])) (is (0 ∷ replicate 8 8) (1 ∷ zeros 7) (4432676798593 ∷ replicate 7 5) 8 ∷ []))
  pub P7-more : build (pushes 8) ≡ good p7more
  pub P8-127 : (count_bytes 127 ≡ 0xff ∷ []) × (count_at (0xff ∷ []) 0 ≡ found 127 1)
  pub P8-128 : (count_bytes 128 ≡ 0x02 ∷ 0x02 ∷ []) × (count_at (0x02 ∷ 0x02 ∷ []) 0 ≡ found 128 2)
  pub P8-16383 : (count_bytes 16383 ≡ 0xfe ∷ 0xff ∷ []) × (count_at (0xfe ∷ 0xff ∷ []) 0 ≡ found 16383 2)
  pub P8-16384 : (count_bytes 16384 ≡ 0x04 ∷ 0x00 ∷ 0x02 ∷ []) × (count_at (0x04 ∷ 0x00 ∷ 0x02 ∷ []) 0 ≡ found 16384 3)
  pub P9-taken : read (bare 9 (low 9)) 0 ≡ found (block (twos 9) (is (0 ∷ replicate 8 9) (zeros 8) (145249953336295682 ∷ zeros 7) 1 ∷ [])) 19
  pub P9-refused : read (bare 10 (low 10)) 0 ≡ refused 6 0
  pub P10-taken : read (bare 0 (low 0)) 0 ≡ found (block [] (nothing ∷ [])) 10
  pub P10-left-over : read (bare 1 (low 0)) 0 ≡ refused 11 0
  -- "Offset equal to the length: 2. One more: 1. Four bytes left and one batch: 5."
  pub at_end : read p2 20 ≡ refused 2 20
  pub past_end : read p2 21 ≡ refused 1 0
  pub four_left : read (1 ∷ 1 ∷ 0 ∷ 0 ∷ 0 ∷ 0 ∷ 0 ∷ 0 ∷ 0 ∷ []) 0 ≡ refused 5 0
  -- what those leave open
  pub operations : OfOperations
  pub batching : OfBatching
  pub bytes : OfBytes
  pub reading : OfReading
  pub checks : OfChecks
  pub lookups : OfLookups
  pub orders : OfOrders
  pub outputs : OfOutputs
  pub kept : OfKept
  pub faults : OfFaults
  pub strict_reading : OfStrict
  pub comparison : OfCompare

pub numbers : Numbers
unfolding document
numbers =
    record {
      P1 = refl;
      P2-written = refl;
      P2-read = refl;
      P2-within = refl;
      P3-raw = refl;
      P3-padded = refl;
      P4 = refl;
      P5 = refl;
      P6 = refl;
      P7 = refl;
      P7-more = refl;
      P8-127 = (refl, refl);
      P8-128 = (refl, refl);
      P8-16383 = (refl, refl);
      P8-16384 = (refl, refl);
      P9-taken = refl;
      P9-refused = refl;
      P10-taken = refl;
      P10-left-over = refl;
      at_end = refl;
      past_end = refl;
      four_left = refl;
      operations = record {
        table_127 = refl;
        table_129 = refl;
        kind_four = refl;
        noop_one = refl;
        noop_three = refl;
        opcode_127 = refl;
        opcode_128 = refl;
        opcode_over = (refl, refl);
        past_the_table = refl;
        unassigned = refl;
        valued_noop = refl;
        largest_1 = refl;
        largest_2 = refl;
        field_1 = refl;
        field_2 = refl;
        list_16385 = λ cs vs h k. rw (h, k);
        list_16384 = λ cs vs h k. rw (h, k);
        fewer_values = refl;
        more_values = refl;
        block_65536 = λ cs vs h k. rw (h, k);
        batches_16385 = λ rs h. rw h;
        block_fewer = refl;
        block_more = refl;
        block_full = λ cs vs rs h k l. rw (h, k, l);
        record_81 = refl;
        record_83 = refl;
        record_82 = refl;
        records_164 = refl;
        bytes_1048577 = λ s h. rw h;
        bytes_1048576 = λ s h. rw h;
        buffer_1048577 = refl;
        buffer_1048576 = refl;
      };
      batching = record {
        targets = refl;
        plain_1 = refl;
        plain_10 = refl;
        plain_18 = refl;
        plain_28 = refl;
        plain_36 = refl;
        plain_37 = refl;
        plain_72 = refl;
        plain_73 = refl;
        seven_and_two = refl;
        seven_and_three = refl;
        six_and_four = refl;
        seven_in_eight = refl;
        six_of_eight = refl;
        six_of_nine = refl;
        five_of_eight = refl;
        five_of_nine = refl;
        noop_ninth = refl;
        no_noop = refl;
        but_last_lem = (refl, refl);
        kind_two = refl;
        own_noop = refl;
      };
      bytes = record {
        count_missing = refl;
        count_cut_2 = refl;
        count_cut_3 = refl;
        three_zeros = refl;
        all_zeros = refl;
        long_127 = refl;
        long_16383 = refl;
        count_65535 = (refl, refl);
        count_65536 = refl;
        op_missing = refl;
        op_missing_later = refl;
        value_cut = refl;
        value_cut_later = refl;
        value_whole = refl;
        opcode_unassigned = refl;
        opcode_high = refl;
        value_over_1 = refl;
        value_over_2 = refl;
        value_top = refl;
        batches_missing = refl;
        batches_cut = refl;
        fourth_byte = refl;
        nine_left = refl;
        ten_left = refl;
        left_from_here = refl;
        five_first = refl;
        read_16385 = λ s h. rw h;
        read_16384 = λ s h. rw h;
        nibbles = refl;
        nibble_9_last = refl;
        nibble_10_last = refl;
        nibble_10_later = refl;
        p6_bytes = (refl, refl);
        two_batches = (refl, refl);
        kind_2_bytes = refl;
        empty_block = (refl, refl);
      };
      reading = record {
        empty_group = refl;
        groups_after = refl;
        empty_first = refl;
        slot_after_lem = refl;
        slot_then_empty = refl;
        two_slots = refl;
        slot_seven = refl;
        kind_2_read = refl;
        empty_between = refl;
        runs_past = refl;
        runs_past_by_two = refl;
        runs_past_later = refl;
        slot_eight = refl;
        slot_eight_later = refl;
        eight_slots = refl;
        slot_taken = refl;
        slot_taken_later = refl;
        slot_taken_first = refl;
        first_group_first = refl;
        no_noop_flagged = refl;
        noop_before_end = refl;
        empty_flagged = refl;
        immediate_flagged = refl;
        flag_later = refl;
        flag_third = refl;
        flag_right_later = refl;
        flag_right = refl;
        left_over = refl;
        room_right = refl;
        codes_short = refl;
        values_short = refl;
        records_short = refl;
        width_nibble = refl;
        width_flag = refl;
        width_slot = refl;
        width_four = refl;
      };
      checks = record {
        passes = (refl, refl, refl);
        passes_6 = (refl, refl, refl);
        passes_7 = (refl, refl, refl);
        stale_value = refl;
        stale_code = refl;
        stale_length = refl;
        count_9 = refl;
        count_8 = refl;
        flag_2 = refl;
        flag_2_last = refl;
        first_start = refl;
        falling = refl;
        falling_last = refl;
        ten_in_group = refl;
        ten_in_last = refl;
        nine_in_last = refl;
        count_short = refl;
        later_batch = refl;
        sum_less = refl;
        sum_more = refl;
        batch_before_sum = refl;
        no_batches = refl;
        no_operations = refl;
        not_noop = refl;
        noop_not_last = refl;
        noop_last = refl;
        empty_flagged = refl;
        padding_later = refl;
        number_wrong = refl;
        number_less = refl;
        number_later = refl;
        second_number = refl;
        slot_at_count = refl;
        slot_at_eight = refl;
        slot_later = refl;
        slot_taken = refl;
        slot_taken_later = refl;
        values_right = refl;
        value_top = refl;
        second_value = refl;
        value_later = refl;
        empty_0 = refl;
        empty_then_slot = refl;
        two_slots = refl;
        empty_not_0 = refl;
        second_empty_not_0 = refl;
        empty_first_not_0 = refl;
        empty_after_slot = refl;
        empty_after_next = refl;
        empty_later = refl;
        from_count_on = refl;
        flags_unseen = refl;
        kind_2_unseen = refl;
        number_before_slot = refl;
        slot_before_value = refl;
        taken_before_value = refl;
        taken_before_next = refl;
        value_before_next = refl;
        slot_before_empty = refl;
        empty_before_next = refl;
      };
      lookups = record {
        group_0 = refl;
        group_7 = refl;
        group_8 = refl;
        group_9 = refl;
        group_10 = refl;
        group_end = refl;
        group_largest = refl;
        group_last = refl;
        group_past = refl;
        group_of_none = refl;
        next_0 = refl;
        next_1 = refl;
        next_2 = refl;
        next_3 = refl;
        next_6 = refl;
        next_7 = refl;
        next_largest = refl;
        next_of_none = refl;
        under_the_count = refl;
        count_9 = (refl, refl);
        flag_2 = (refl, refl);
        first_start = (refl, refl);
        falling = (refl, refl);
        ten = (refl, refl);
        count_short = (refl, refl);
        raw_7 = refl;
        padded_7 = refl;
        raw_6 = refl;
        padded_6 = refl;
        raw_own = refl;
        raw_empty = refl;
        padded_empty = refl;
        raw_short = refl;
        padded_short = refl;
        no_room = (refl, refl);
        to_padded = (refl, refl, refl, refl);
        to_raw = (refl, refl, refl, refl);
        entry_greater = (refl, refl, refl);
        sum_largest = (refl, refl);
      };
      orders = record {
        build_3_14 = refl;
        build_3_12 = refl;
        build_14_12 = refl;
        build_14_4 = refl;
        build_12_13 = refl;
        build_12 = refl;
        build_4_13 = refl;
        build_13 = (refl, refl, refl, refl);
        encode_3_14 = refl;
        encode_size_14 = refl;
        encode_14_1 = refl;
        encode_1_15 = refl;
        encode_15_4 = refl;
        encode_15_later = refl;
        encode_4_13 = refl;
        encode_13 = (refl, refl, refl, refl);
        encode_at_end = refl;
        encode_unseen = refl;
        decode_14_1 = refl;
        decode_1 = refl;
        decode_3_13 = refl;
        decode_2_13 = refl;
        decode_13_4 = refl;
        decode_4_2 = refl;
        decode_first = refl;
        decode_4_5 = refl;
        decode_5_13 = refl;
        decode_13_6 = refl;
        decode_6_7 = refl;
        decode_7_8 = refl;
        decode_8_10 = refl;
        decode_9_10 = refl;
        decode_8_7 = refl;
        decode_10_7 = refl;
        decode_10_9 = refl;
        decode_8_11 = refl;
        decode_10_11 = refl;
        count_3_1 = λ s h. rw h;
        count_limit = λ s h. rw h;
        count_here_lem = (refl, refl, refl);
        op_3_14 = λ s h. rw h;
        op_limit = λ s h. rw h;
        op_14_1 = refl;
        op_here_lem = (refl, refl, refl, refl, refl);
        head_3_14 = λ s h. rw h;
        head_limit = λ s h. rw h;
        head_14_1 = refl;
        head_here = (refl, refl, refl);
        head_65535 = refl;
        head_16384 = λ s h. rw h;
        table_3_15 = (refl, refl);
        table_15_10 = refl;
        table_10_13 = refl;
        structure_3_15 = refl;
        padding_3_15 = refl;
        padding_15_10 = refl;
        commitment_3_14 = refl;
        commitment_14_15 = refl;
        commitment_15_4 = refl;
        commitment_4_16 = refl;
      };
      outputs = record {
        record_bytes_lem = refl;
        block_in_lem = refl;
        room_in_lem = refl;
        room_for_two = refl;
        room_for_none = refl;
        build_leaves = refl;
        build_refused = refl;
        decode_leaves = refl;
        decode_refused = refl;
        table_leaves = refl;
        table_refused = refl;
        totals_told = (refl, refl);
        length_told_lem = (refl, refl);
        bytes_used = (refl, refl);
        encode_leaves = refl;
        encode_refused = refl;
      };
      kept = record {
        of_none = (refl, refl);
        at_count = (refl, refl);
        last = (refl, refl);
        all_above = (refl, refl);
        in_two = (refl, refl);
        then_11 = refl;
        then_10 = refl;
        then_7 = refl;
        then_10_later = refl;
        slot_under = refl;
        group_under = refl;
        each_under = refl;
        eighth_under = refl;
        eight_right = (refl, refl);
        empty_under = refl;
        width_kept = refl;
        check_of_none = refl;
        check_at_count = refl;
        check_last = refl;
        check_all_above = (refl, refl, refl);
        check_under = refl;
        check_empty_under = refl;
        check_each = refl;
        check_eighth = refl;
        check_later = refl;
        flag_two = (refl, refl);
        raw_table_lem = refl;
        padded_table_lem = refl;
        no_table = refl;
        group = refl;
        next = refl;
        built_clear = refl;
      };
      faults = record {
        kind_0 = refl;
        noop = refl;
        kind_1 = refl;
        kind_2 = refl;
        kind_3 = refl;
        opcode_128 = refl;
        last_opcode = (refl, refl, refl);
        build_0 = refl;
        build_1 = refl;
        build_2 = refl;
        build_below = refl;
        encode_0 = refl;
        encode_1 = refl;
        encode_2 = refl;
        encode_below = refl;
        commitment_0 = refl;
        commitment_1 = refl;
        commitment_2 = refl;
        commitment_below = refl;
        build_both = (refl, refl);
        encode_both = (refl, refl);
        commitment_both = (refl, refl);
        build_17_4 = refl;
        build_4_17 = refl;
        encode_17_4 = refl;
        encode_4_17 = refl;
        commitment_17_4 = refl;
        commitment_4_17 = refl;
        decode_17_4 = refl;
        decode_4_17 = refl;
        head_17_4 = refl;
        head_4_17 = refl;
        op_opcode = (refl, refl, refl, refl);
        op_cut = (refl, refl);
        op_value = (refl, refl);
        op_below = (refl, refl);
        op_plain = refl;
        build_3_17 = refl;
        build_14_17 = refl;
        build_17_13 = refl;
        encode_3_17 = refl;
        encode_14_17 = refl;
        encode_1_17 = refl;
        encode_15_17 = refl;
        encode_17_13 = refl;
        decode_3_17 = λ s h. rw h;
        decode_14_17 = refl;
        decode_13_17 = refl;
        decode_17_cut = refl;
        decode_17_2 = refl;
        decode_17_5 = refl;
        decode_17_13 = refl;
        head_3_17 = λ s h. rw h;
        head_14_17 = refl;
        op_3_17 = λ s h. rw h;
        op_14_17 = refl;
        commitment_3_17 = refl;
        commitment_14_17 = refl;
        commitment_15_17 = refl;
        commitment_17_16 = refl;
        unlooked = (refl, refl, refl, refl);
      };
      strict_reading =
          record {
            P1 = refl;
            P1-within = refl;
            P1-room = refl;
            P6 = refl;
            P7-more = refl;
            own_noop = refl;
            own_noop_last = refl;
            noop_after_push = refl;
            own_list_lem = (refl, refl, refl);
            own_rest = refl;
            empty_block = (refl, refl);
            empty_batch = (refl, refl);
            empty_batches = (refl, refl);
            padding_alone = (refl, refl);
            padding_and_empty = (refl, refl);
            list_16384 = λ b r h. rw h;
            list_16385 = λ b r h. rw h;
            read_16385 = λ s b next d h. rw (d, h);
            list_1 = λ b r h. rw h;
            empty_first = (refl, refl);
            empty_middle = (refl, refl);
            empty_last_lem = (refl, refl);
            empty_after_p1 = (refl, refl);
            two_after_p1 = (refl, refl);
            padding_after_p1 = (refl, refl);
            stray_first = (refl, refl);
            stray_between = (refl, refl);
            stray_later = (refl, refl);
            three_groups_lem = (refl, refl);
            kept_at_count = (refl, refl);
            kept_last = (refl, refl);
            kept_all = (refl, refl);
            kept_later = (refl, refl);
            kept_and_empty = (refl, refl);
            flagged_noop = (refl, refl);
            padding_group = (refl, refl);
            no_padding = (refl, refl);
            group_early = (refl, refl);
            group_late = (refl, refl);
            batch_early = (refl, refl);
            batch_early_later = (refl, refl);
            flag_alone = (refl, refl);
            start_alone = (refl, refl);
            stale = (refl, refl);
            fresh = refl;
            stale_of_fresh = (refl, refl);
            cut_value = refl;
            cut_batch = refl;
            order_3 = λ s h. rw h;
            order_14 = refl;
            order_1 = refl;
            order_13 = (refl, refl);
            order_4 = refl;
            order_17 = refl;
            order_2 = refl;
            order_2_value = refl;
            order_5 = refl;
            order_6 = refl;
            order_7 = refl;
            order_8 = refl;
            order_9 = refl;
            order_10 = refl;
            order_11 = refl;
            alike = refl;
            other_starts = refl;
            other_flags = refl;
            other_numbers = (refl, refl);
            other_count = (refl, refl);
            more_flags = (refl, refl);
            extra_read = (refl, refl);
            extra_built = (refl, refl);
            no_batches = refl;
            by_width = (refl, refl, refl);
            width_ordinary = (refl, refl);
            leaves_block = refl;
            leaves_zeros = refl;
            used_told = (refl, refl);
          };
      comparison = record {
        P1-itself = refl;
        P1-within = refl;
        P1-first-within = refl;
        long_itself = refl;
        empty_itself = refl;
        value_6 = refl;
        noop_unflagged = refl;
        noop_flagged = refl;
        more_second = refl;
        more_first = refl;
        two_more_second = refl;
        two_more_first = refl;
        empty_first = refl;
        empty_second = refl;
        both_signs = refl;
        two_tables = refl;
        other_tables = refl;
        all_five = refl;
        first_number = refl;
        later_number = refl;
        first_flag = refl;
        first_length = refl;
        later_length = refl;
        kept_last = refl;
        group_more = refl;
        last_group = refl;
        one_longer = refl;
        longer_first = refl;
        noop_more = refl;
        padding_more = refl;
        covered = refl;
        other_opcode = refl;
        other_value = refl;
        later_opcode = refl;
        after_padding = refl;
        padding_there = refl;
        other_groups = refl;
        after_longer = refl;
        ninth_operation = refl;
        last_alone = refl;
        padded_more = refl;
        paddings_eight = refl;
        first_refused = refl;
        second_refused = refl;
        both_refused = (refl, refl);
        past_end = (refl, refl);
        bad_table = (refl, refl);
        no_room = (refl, refl);
        just_room = refl;
        later_place = refl;
        refused_before = (refl, refl);
        one_short = refl;
        none_short = refl;
        nothing_lent = refl;
        left_zeroed = (refl, refl);
        left_nothing = refl;
        left_entries = refl;
        left_batch = refl;
        left_missing = refl;
        left_size = refl;
        left_difference = refl;
        left_fields = refl;
        totals_p7 = (refl, refl, refl, refl);
        totals_p6 = (refl, refl, refl, refl);
        paddings_under = (refl, refl, refl);
        by_width = (refl, refl, refl);
        width_8 = refl;
      };
    }
