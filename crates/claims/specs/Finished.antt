-- A block that was taken is whole: where decode took it from a file, its bytes say the same block in any surroundings, and the file cut short
-- anywhere before the block's end is refused.
use Rattle.std.specs.Prelude.{◌≡◌, true, List, ◌++◌, ℕ, ◌+◌, ◌≤◌, ◌<◌, length, get_or, take}
use Rattle.rules.specs.Answer.{found}
use Rattle.rules.specs.Record.{Block}
use Rattle.rules.specs.Block.{Room, block_bytes}
use Rattle.rules.specs.Functions.{room_for, decoded}

-- a list of bytes
abbrev pub Bytes : List ℕ → Type 0
Bytes s = (i : ℕ) → get_or s i 0 < 256

-- s is the file, blk the block that was taken from it, and next the place after it
pub record Finished (w : ℕ) (t s : List ℕ) (at : ℕ) (blk : Block) (next : ℕ) : Type 0 where
  pub used : next ≡ at + length (block_bytes t blk)
  pub anywhere : (before after : List ℕ) (room : Room) → length (before ++ (block_bytes t blk ++ after)) ≤ 1048576 → room_for blk room ≡ true
      → decoded w t (before ++ (block_bytes t blk ++ after)) (length before) room ≡ found blk (length before + length (block_bytes t blk))
  pub cut_short : (m : ℕ) → m < next → (room : Room) (b : Block) (n : ℕ) → decoded w t (take m s) at room ≡ found b n → ⊥
