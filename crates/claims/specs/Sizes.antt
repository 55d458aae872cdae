-- Sizes that document 01 names: of a batch that is ended, of a record, of a block's bytes.
use Rattle.std.specs.Prelude.{◌≡◌, cond, List, map, ℕ, ◌+◌, ◌*◌, ◌≤◌, length}
use Rattle.rules.specs.Lists.{total}
use Rattle.rules.specs.Operations.{Op, valued}
use Rattle.rules.specs.Batching.{Batch, next_free, ended}
use Rattle.rules.specs.Record.{Block}
use Rattle.rules.specs.Bytes.{more}
use Rattle.rules.specs.Block.{block_bytes}
use Rattle.claims.specs.Shape.{PowerOfTwo}

-- m is the least power of two that is not below n
pub record Least (n m : ℕ) : Type 0 where
  pub power : PowerOfTwo m
  pub enough : n ≤ m
  pub least : (k : ℕ) → PowerOfTwo k → n ≤ k → m ≤ k

-- "Ending a batch: close and open until next free is a power of two, then close the last. That number is the group count."
abbrev pub EndedCount : Type 0
EndedCount = (t : List ℕ) (b : Batch) → next_free b ≤ 8 → Least (next_free b) (length (ended t b))

-- "plus 1 or 9 per operation"
abbrev pub op_length : List ℕ → Op → ℕ
op_length t x = cond (valued t x.code) 9 1

-- "Length: 5 per batch, plus 4, plus the count's length, plus 1 or 9 per operation."
abbrev pub BlockLength : Type 0
BlockLength = (t : List ℕ) (b : Block) → length (block_bytes t b) ≡ 5 * length b.records + 4 + (more (length b.ops) + 1) + total (map (op_length t) b.ops)
