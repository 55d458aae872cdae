-- Demand 3: "For each list of 1 to 16,384 admissible operations under a good table, with enough room lent within 01's limits: ...".
use Rattle.std.specs.Prelude.{◌≡◌, true, List, ◌++◌, ℕ, ◌+◌, ◌*◌, ◌≤◌, length, take}
use Rattle.rules.specs.Lists.{every}
use Rattle.rules.specs.Answer.{good, found}
use Rattle.rules.specs.Operations.{Op, codes, values, good_table, admissible}
use Rattle.rules.specs.Record.{Block, record_size, records_bytes}
use Rattle.rules.specs.Block.{Room, block_bytes}
use Rattle.rules.specs.Functions.{Arena, arena, room_for, filled, room_in, built, encoded, decoded}
use Rattle.claims.specs.Left.{Left}

-- a block lent in runs that it fills
abbrev pub lent : Block → Arena
lent b = arena (codes b.ops) (values b.ops) (records_bytes b.records)

-- the front of an arena: as many operations and records as the block has
abbrev pub front : Block → Arena → Arena
front b a = arena (take (length b.ops) a.codes) (take (length b.ops) a.values) (take (record_size * length b.records) a.records)

-- the premises: a good table and a list of 1 to 16,384 admissible operations
pub record Premises (t : List ℕ) (xs : List Op) : Type 0 where
  pub table : good_table t ≡ true
  pub some : 1 ≤ length xs
  pub most : length xs ≤ 16384
  pub admitted : every (admissible t) xs ≡ true

-- the conclusion, for the width w; b is the block of demand 2's batches
pub record Demand3 (w : ℕ) (t : List ℕ) (xs : List Op) (b : Block) : Type 0 where
  -- with enough room lent, build gives this block, and it is left in the front of what was lent
  pub builds : (room : Room) → room_for b room ≡ true → built w t (codes xs) (values xs) room ≡ good b
  pub leaves : (out : Arena) → room_for b (room_in out) ≡ true → front b (filled out b) ≡ lent b
  -- "dropping the flagged padding from the batches .. gives the list back; no group holds over nine operations or ends in one with an immediate; every
  -- batch has 1, 2, 4 or 8 groups, each but the last has 8"
  pub left : Left w t xs b
  -- encode takes what build left, and writes the block's bytes
  pub writes : (size at : ℕ) → size ≤ 1048576 → at + length (block_bytes t b) ≤ size
      → encoded w t (lent b) size at ≡ good (block_bytes t b)
  -- "decoding the written block gives those batches again, every start, flag, group number and count", at any place and whatever surrounds it
  pub reads : (before after : List ℕ) (room : Room) → length (before ++ (block_bytes t b ++ after)) ≤ 1048576 → room_for b room ≡ true
      → decoded w t (before ++ (block_bytes t b ++ after)) (length before) room ≡ found b (length before + length (block_bytes t b))
  -- the limits of document 01 leave room for all of it
  pub few : (length b.ops ≤ 65535) × (length b.records ≤ 16384)
  pub short : length (block_bytes t b) ≤ 671742
