-- At a named input each export has this reply and leaves this, and nothing else: so one that refuses everything, passes everything, answers the place 0, writes
-- nothing, leaves what it was lent, ignores the write position, tells an invented length, tells a wrong value as
-- a wrong opcode, takes a block that is not finished in strict reading or tells a wrong difference of two blocks is shut out. Lent runs are full of nines.
use Rattle.std.specs.Prelude.{◌≡◌, List, [], ◌∷◌, ◌++◌, ℕ, ℤ, pos, neg_ℤ, replicate}
use Rattle.rules.specs.Record.{record_at, records_bytes, record_bytes, word_bytes}
use Rattle.rules.specs.Lookups.{raw_at, padded_at, padded_index, raw_index}
use Rattle.rules.specs.Functions.{Arena, arena, built, encoded, decoded, strictly_decoded, compared, headed, structure_checked, padding_checked, commitment_checked, raw_tabled, padded_tabled, group_lookup, next_lookup}
use Rattle.rules.specs.Examples.{table_t, op, is, lent, pair, over, low, push, laid, p1, p2}
use Rattle.crossing.specs.Words.{words_in}
use Rattle.comparison.specs.Replies.{side, room_for}
use Rattle.exports.specs.declared.BuildReply.{BuildReply}
use Rattle.exports.specs.declared.EncodeReply.{EncodeReply}
use Rattle.exports.specs.declared.DecodeReply.{DecodeReply}
use Rattle.exports.specs.declared.CompareReply.{CompareReply}
use Rattle.exports.specs.declared.TableReply.{TableReply}
use Rattle.exports.specs.Replies.{Builds, Writes, Reads, Tables, BuildsBytes, ReadsBytes, TablesBytes, head_reply, Compares, check_reply, padded_reply, raw_reply, one_record, whole_words, in_whole, group_reply, next_reply}

abbrev pub nines : ℕ → List ℕ
nines n = replicate n 9

-- runs for three operations and one record, a byte over; with values as numbers, and as bytes
abbrev pub numbers : Arena
numbers = arena (nines 3) (nines 3) (nines 83)

abbrev pub bytes : Arena
bytes = arena (nines 3) (nines 25) (nines 83)

-- the same with a second record, and full of zeros
abbrev pub numbers_of_two : Arena
numbers_of_two = arena (nines 3) (nines 3) (nines 165)

abbrev pub bytes_of_two : Arena
bytes_of_two = arena (nines 3) (nines 25) (nines 165)

abbrev pub zeroed : ℕ → ℕ → Arena
zeroed v r = arena (replicate 3 0) (replicate v 0) (replicate r 0)

-- P2's bytes with an empty batch more, and with a flag on a group that is not there (M-100): no list writes them
abbrev pub empty_last : List ℕ
empty_last = laid 2 (push ++ (0 ∷ [])) 2 (low 2 ++ low 0) (1 ∷ 0 ∷ [])

abbrev pub kept_flag : List ℕ
kept_flag = laid 2 (push ++ (0 ∷ [])) 1 (low 2) (5 ∷ [])

-- compare of two runs of bytes, from two places on, with a report of so many numbers
abbrev pub ComparesHere : List ℕ → ℕ → List ℕ → ℕ → ℕ → CompareReply → Arena → Arena → List ℤ → Type 0
ComparesHere s at z from n r a c out =
    let report = replicate n (pos 9) in
    Compares (compared 8 (side table_t s at numbers_of_two) (side table_t z from numbers_of_two) (room_for report)) r numbers_of_two a numbers_of_two c report out

-- what P1's block leaves there
abbrev pub codes_left : List ℕ
codes_left = 1 ∷ 0 ∷ 0 ∷ []

abbrev pub records_left : List ℕ
records_left = records_bytes p1.records ++ (0 ∷ [])

-- P1's block with a second batch, whose count is over 8; its flag stands on an empty group; its number is another
abbrev pub second : List ℕ → List ℕ → ℕ → Arena
second fs ns k = arena (1 ∷ 0 ∷ 2 ∷ []) (5 ∷ 0 ∷ 0 ∷ []) (records_bytes p1.records ++ record_bytes (is (0 ∷ replicate 8 1) fs ns k))

-- a batch of three groups: nine operations, none and one
abbrev pub three_groups : List ℕ
three_groups = record_bytes (is (0 ∷ 9 ∷ 9 ∷ replicate 6 10) (replicate 8 0) (replicate 8 0) 3)

pub record ShutOut : Type 0 where
  pub oli_build : (r : BuildReply) (after : Arena) → Builds (built 8 table_t (1 ∷ []) (5 ∷ [])) r numbers after
      → (r ≡ record { number = 0; place = 0; batches = 1; operations = 2 }) × (after ≡ arena codes_left (5 ∷ 0 ∷ 0 ∷ []) records_left)
  -- encode to byte 3 of a buffer of 30
  pub oli_encode : (r : EncodeReply) (after : List ℕ) → Writes (encoded 8 table_t (lent p1) 30 3) 3 r (nines 30) after
      → (r ≡ record { number = 0; place = 0; length = 20 }) × (after ≡ nines 3 ++ (p2 ++ nines 7))
  pub oli_decode : (r : DecodeReply) (after : Arena) → Reads (decoded 8 table_t p2 0) 0 r numbers after
      → (r ≡ record { number = 0; place = 0; batches = 1; operations = 2; used = 20 }) × (after ≡ arena codes_left (5 ∷ 0 ∷ 0 ∷ []) records_left)
  pub oli_raw_table : (r : TableReply) (after : List ℕ) → Tables (raw_tabled 8 (lent p1) 4) r (nines 4) after → (r ≡ record { number = 0; place = 0; entries = 2 }) × (after ≡ 0 ∷ 1 ∷ 0 ∷ 0 ∷ [])
  pub oli_padded_table : (r : TableReply) (after : List ℕ) → Tables (padded_tabled 8 (lent p1) 4) r (nines 4) after
      → (r ≡ record { number = 0; place = 0; entries = 3 }) × (after ≡ 0 ∷ 0 ∷ 1 ∷ 0 ∷ [])
  -- over bytes
  pub oli_build_le : (r : BuildReply) (after : Arena) → BuildsBytes (built 8 table_t (1 ∷ []) (5 ∷ [])) r bytes after
      → (r ≡ record { number = 0; place = 0; batches = 1; operations = 2 }) × (after ≡ arena codes_left (5 ∷ replicate 24 0) records_left)
  pub oli_decode_le : (r : DecodeReply) (after : Arena) → ReadsBytes (decoded 8 table_t p2 0) 0 r bytes after
      → (r ≡ record { number = 0; place = 0; batches = 1; operations = 2; used = 20 }) × (after ≡ arena codes_left (5 ∷ replicate 24 0) records_left)
  pub oli_encode_le : (r : EncodeReply) (after : List ℕ)
      → Writes (whole_words (word_bytes (5 ∷ 0 ∷ [])) (encoded 8 table_t (arena (1 ∷ 0 ∷ []) (words_in (word_bytes (5 ∷ 0 ∷ []))) (records_bytes p1.records)) 30 3)) 3 r (nines 30) after
      → (r ≡ record { number = 0; place = 0; length = 20 }) × (after ≡ nines 3 ++ (p2 ++ nines 7))
  pub oli_raw_table_le : (r : TableReply) (after : List ℕ) → TablesBytes (raw_tabled 8 (lent p1) 4) r (nines 33) after
      → (r ≡ record { number = 0; place = 0; entries = 2 }) × (after ≡ word_bytes (0 ∷ 1 ∷ 0 ∷ 0 ∷ []) ++ (0 ∷ []))
  pub oli_padded_table_le : (r : TableReply) (after : List ℕ) → TablesBytes (padded_tabled 8 (lent p1) 4) r (nines 33) after
      → (r ≡ record { number = 0; place = 0; entries = 3 }) × (after ≡ word_bytes (0 ∷ 0 ∷ 1 ∷ 0 ∷ []) ++ (0 ∷ []))
  pub oli_head : (head_reply (headed table_t p2 0) ≡ record { number = 0; place = 0; batches = 1; operations = 2 }) × (head_reply (headed table_t p2 20) ≡ record { number = 2; place = 20; batches = 0; operations = 0 })
  -- a value on the second of two of opcode 2, and the field's size as a value after one of opcode 2 (M-101)
  pub value_build : (r : BuildReply) (after : Arena) → Builds (built 8 table_t (2 ∷ 2 ∷ []) (0 ∷ 1 ∷ [])) r numbers after
      → (r ≡ record { number = 17; place = 1; batches = 0; operations = 0 }) × (after ≡ zeroed 3 83)
  pub value_encode : (r : EncodeReply) (after : List ℕ) → Writes (encoded 8 table_t (lent (pair (op 2 0) (op 2 1))) 30 3) 3 r (nines 30) after
      → (r ≡ record { number = 17; place = 1; length = 0 }) × (after ≡ nines 30)
  pub value_decode : (r : DecodeReply) (after : Arena) → Reads (decoded 8 table_t (5 ∷ 2 ∷ 1 ∷ over) 0) 0 r numbers after
      → (r ≡ record { number = 17; place = 1; batches = 0; operations = 0; used = 0 }) × (after ≡ zeroed 3 83)
  pub value_head : head_reply (headed table_t (5 ∷ 2 ∷ 1 ∷ over) 0) ≡ record { number = 17; place = 1; batches = 0; operations = 0 }
  pub value_commitment : check_reply (commitment_checked 8 table_t (lent (pair (op 2 0) (op 2 1)))) ≡ record { number = 17; place = 1 }
  -- strict reading: P2's bytes are read as decode reads them; of those that decode takes and no list writes, 18 with the batch, and nothing is left
  pub oli_decode_strict : (r : DecodeReply) (after : Arena) → Reads (strictly_decoded 8 table_t p2 0) 0 r numbers after
      → (r ≡ record { number = 0; place = 0; batches = 1; operations = 2; used = 20 }) × (after ≡ arena codes_left (5 ∷ 0 ∷ 0 ∷ []) records_left)
  pub oli_decode_strict_le : (r : DecodeReply) (after : Arena) → ReadsBytes (strictly_decoded 8 table_t p2 0) 0 r bytes after
      → (r ≡ record { number = 0; place = 0; batches = 1; operations = 2; used = 20 }) × (after ≡ arena codes_left (5 ∷ replicate 24 0) records_left)
  pub unfinished_decode : (r : DecodeReply) (after : Arena) → Reads (decoded 8 table_t empty_last 0) 0 r numbers_of_two after → r ≡ record { number = 0; place = 0; batches = 2; operations = 2; used = 25 }
  pub unfinished_strict : (r : DecodeReply) (after : Arena) → Reads (strictly_decoded 8 table_t empty_last 0) 0 r numbers_of_two after
      → (r ≡ record { number = 18; place = 1; batches = 0; operations = 0; used = 0 }) × (after ≡ zeroed 3 165)
  pub unfinished_strict_le : (r : DecodeReply) (after : Arena) → ReadsBytes (strictly_decoded 8 table_t empty_last 0) 0 r bytes_of_two after
      → (r ≡ record { number = 18; place = 1; batches = 0; operations = 0; used = 0 }) × (after ≡ zeroed 25 165)
  pub kept_decode : (r : DecodeReply) (after : Arena) → Reads (decoded 8 table_t kept_flag 0) 0 r numbers after → r ≡ record { number = 0; place = 0; batches = 1; operations = 2; used = 20 }
  pub kept_strict : (r : DecodeReply) (after : Arena) → Reads (strictly_decoded 8 table_t kept_flag 0) 0 r numbers after
      → (r ≡ record { number = 18; place = 0; batches = 0; operations = 0; used = 0 }) × (after ≡ zeroed 3 83)
  pub kept_strict_le : (r : DecodeReply) (after : Arena) → ReadsBytes (strictly_decoded 8 table_t kept_flag 0) 0 r bytes after
      → (r ≡ record { number = 18; place = 0; batches = 0; operations = 0; used = 0 }) × (after ≡ zeroed 25 83)
  -- P2's bytes and those with an empty batch more, which one side lacks; a report a number over, and one too short
  pub oli_compare : (r : CompareReply) (a c : Arena) (out : List ℤ) → ComparesHere empty_last 0 p2 0 9 r a c out
      → (r ≡ record { mark = 0; number = 0; place = 0; entries = 2 }) × (a ≡ zeroed 3 165) × (c ≡ zeroed 3 165) × (out ≡ pos 6 ∷ pos 1 ∷ pos 2 ∷ pos 0 ∷ pos 7 ∷ pos 0 ∷ pos 0 ∷ neg_ℤ (pos 1) ∷ pos 0 ∷ [])
  pub compare_swapped : (r : CompareReply) (a c : Arena) (out : List ℤ) → ComparesHere p2 0 empty_last 0 9 r a c out
      → (r ≡ record { mark = 0; number = 0; place = 0; entries = 2 }) × (out ≡ pos 6 ∷ pos 1 ∷ pos 1 ∷ pos 0 ∷ pos 7 ∷ pos 0 ∷ pos 0 ∷ pos 1 ∷ pos 0 ∷ [])
  pub compare_same : (r : CompareReply) (a c : Arena) (out : List ℤ) → ComparesHere p2 0 p2 0 9 r a c out
      → (r ≡ record { mark = 0; number = 0; place = 0; entries = 0 }) × (out ≡ replicate 9 (pos 0))
  pub compare_short : (r : CompareReply) (a c : Arena) (out : List ℤ) → ComparesHere empty_last 0 p2 0 7 r a c out
      → (r ≡ record { mark = 0; number = 13; place = 0; entries = 0 }) × (a ≡ zeroed 3 165) × (c ≡ zeroed 3 165) × (out ≡ replicate 7 (pos 0))
  -- refusals: the second block's, and the first's before it
  pub compare_second : (r : CompareReply) (a c : Arena) (out : List ℤ) → ComparesHere p2 0 p2 20 9 r a c out
      → (r ≡ record { mark = 2; number = 2; place = 20; entries = 0 }) × (a ≡ zeroed 3 165) × (c ≡ zeroed 3 165) × (out ≡ replicate 9 (pos 0))
  pub compare_first : (r : CompareReply) (a c : Arena) (out : List ℤ) → ComparesHere p2 21 p2 20 9 r a c out
      → (r ≡ record { mark = 1; number = 1; place = 0; entries = 0 }) × (a ≡ zeroed 3 165) × (c ≡ zeroed 3 165) × (out ≡ replicate 9 (pos 0))
  -- checks
  pub passed : (check_reply (structure_checked 8 (lent p1)) ≡ record { number = 0; place = 0 })
      × (check_reply (padding_checked 8 (lent p1)) ≡ record { number = 0; place = 0 })
      × (check_reply (commitment_checked 8 table_t (lent p1)) ≡ record { number = 0; place = 0 })
  pub oli_structure : check_reply (structure_checked 8 (second (replicate 8 0) (2 ∷ replicate 7 0) 9)) ≡ record { number = 15; place = 1 }
  pub oli_padding : check_reply (padding_checked 8 (second (1 ∷ replicate 7 0) (2 ∷ replicate 7 0) 1)) ≡ record { number = 10; place = 1 }
  pub oli_commitment : check_reply (commitment_checked 8 table_t (second (replicate 8 0) (3 ∷ replicate 7 0) 1)) ≡ record { number = 16; place = 1 }
  -- over bytes, where values that are not whole numbers are refused first
  pub oli_structure_le : check_reply (whole_words (nines 9) (structure_checked 8 (lent p1))) ≡ record { number = 3; place = 0 }
  pub oli_padding_le : check_reply (whole_words (nines 24) (padding_checked 8 (second (1 ∷ replicate 7 0) (2 ∷ replicate 7 0) 1))) ≡ record { number = 10; place = 1 }
  pub oli_commitment_le : check_reply (whole_words (nines 24) (commitment_checked 8 table_t (second (replicate 8 0) (3 ∷ replicate 7 0) 1))) ≡ record { number = 16; place = 1 }
  -- lookups in P1's tables, over numbers and over bytes, and in one batch
  pub oli_padded_index : (padded_reply (padded_index (0 ∷ 1 ∷ []) (raw_at 1)) ≡ record { found = 1; index = 2 }) × (padded_reply (padded_index (0 ∷ 1 ∷ []) (raw_at 2)) ≡ record { found = 0; index = 0 })
  pub oli_raw_index : (raw_reply (raw_index (0 ∷ 0 ∷ 1 ∷ []) (padded_at 2)) ≡ record { found = 1; index = 1 }) × (raw_reply (raw_index (0 ∷ 0 ∷ 1 ∷ []) (padded_at 3)) ≡ record { found = 0; index = 0 })
  pub oli_padded_index_le : padded_reply (in_whole (word_bytes (0 ∷ 1 ∷ [])) (padded_index (words_in (word_bytes (0 ∷ 1 ∷ []))) (raw_at 1))) ≡ record { found = 1; index = 2 }
  pub oli_raw_index_le : raw_reply (in_whole (word_bytes (0 ∷ 0 ∷ 1 ∷ [])) (raw_index (words_in (word_bytes (0 ∷ 0 ∷ 1 ∷ []))) (padded_at 2))) ≡ record { found = 1; index = 1 }
  pub oli_group : group_reply (one_record three_groups (group_lookup 8 (record_at three_groups 0) 9)) ≡ record { number = 0; place = 0; found = 1; group = 2; position = 0 }
  pub oli_next_group : next_reply (one_record three_groups (next_lookup 8 (record_at three_groups 0) 0)) ≡ record { number = 0; place = 0; found = 1; group = 2 }
