-- What passes the three checks, encoded and decoded: the same operations, starts and flags, and as counts and numbers those that decoding finds. It is
-- the same block exactly where each batch is settled: its count is the one that decoding finds, and its numbers from there on are 0. (The checks ask
-- neither: a count may take in empty groups after the last one used, and numbers from the count on are not looked at.)
use Rattle.std.specs.Prelude.{◌≡◌, true, List, [], ◌∷◌, ◌++◌, map, ℕ, ◌+◌, ◌≤◌, length, take, drop, replicate}
use Rattle.rules.specs.Answer.{good, found}
use Rattle.rules.specs.Record.{Record, Block, differences, record_by}
use Rattle.rules.specs.Block.{Room, count_from, block_bytes}
use Rattle.rules.specs.Checks.{Held, held}
use Rattle.rules.specs.Functions.{Arena, block_in, room_for, encoded, decoded, padding_checked, commitment_checked}
use Rattle.rules.specs.Examples.{table_t, op, is, block, single}
use Rattle.claims.specs.Demand3.{lent}
use Rattle.rules.specs.Lists.{All}

-- the count that decoding finds in a batch
abbrev pub found_count : List ℕ → Held → ℕ
found_count t h = count_from t 0 0 h.groups

-- a batch with the count that decoding finds, and only the numbers under it
unfoldable pub settled : List ℕ → Held → Record
settled t h = record_by (differences h.batch.starts) h.batch.flags (take (found_count t h) h.batch.numbers)

unfoldable pub settled_block : List ℕ → Block → Block
settled_block t b = record { ops = b.ops; records = map (settled t) (held b) }

-- a batch that has that count already, and no numbers from it on
pub record Settled (t : List ℕ) (h : Held) : Type 0 where
  pub count : h.batch.count ≡ found_count t h
  pub zeros : All (λ n. n ≡ 0) (drop h.batch.count h.batch.numbers)

-- for any arena
pub record Returns (w : ℕ) (t : List ℕ) (a : Arena) : Type 0 where
  pub writes : (size at : ℕ) → size ≤ 1048576 → at + length (block_bytes t (block_in a)) ≤ size → encoded w t a size at ≡ good (block_bytes t (block_in a))
  pub reads : (before after : List ℕ) (room : Room) → length (before ++ (block_bytes t (block_in a) ++ after)) ≤ 1048576 → room_for (block_in a) room ≡ true
      → decoded w t (before ++ (block_bytes t (block_in a) ++ after)) (length before) room ≡ found (settled_block t (block_in a)) (length before + length (block_bytes t (block_in a)))
  -- the exact condition, both ways
  pub same : All (Settled t) (held (block_in a)) → settled_block t (block_in a) ≡ block_in a
  pub only : settled_block t (block_in a) ≡ block_in a → All (Settled t) (held (block_in a))

-- The condition is needed: one operation of opcode 2, under a count that takes in an empty group, passes all three checks and is not settled.
abbrev pub loose : Block
loose = block (op 2 0 ∷ []) (is (0 ∷ replicate 8 1) (replicate 8 0) (2 ∷ replicate 7 0) 2 ∷ [])

pub record Needed : Type 0 where
  pub checked : (padding_checked 8 (lent loose) ≡ good tt) × (commitment_checked 8 table_t (lent loose) ≡ good tt)
  pub changed : settled_block table_t loose ≡ block (op 2 0 ∷ []) (single ∷ [])
