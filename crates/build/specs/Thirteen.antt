-- Statements about the rules alone: refusal 13 is given exactly when a lent output is smaller than the result needs, and no room changes anything else.
use Rattle.std.specs.Prelude.{◌≡◌, List, ℕ, ◌≤◌, ◌<◌, length}
use Rattle.rules.specs.Answer.{Answer, good, refused}
use Rattle.rules.specs.Refusals.{no_room₁₃}
use Rattle.rules.specs.Operations.{operations}
use Rattle.rules.specs.Batching.{batches_of}
use Rattle.rules.specs.Record.{Block, block_of}
use Rattle.rules.specs.Block.{Room}
use Rattle.rules.specs.Functions.{built}

-- a lent output is smaller than a block needs
pub data Short (b : Block) (room : Room) : Type 0 where
  codes : room.codes < length b.ops → Short b room
  values : room.values < length b.ops → Short b room
  records : room.records < length b.records → Short b room

-- none is
pub record Enough (b : Block) (room : Room) : Type 0 where
  pub codes : length b.ops ≤ room.codes
  pub values : length b.ops ≤ room.values
  pub records : length b.records ≤ room.records

-- the room alone decides: the block where there is enough, 13 where there is not
pub record Decided (answer : Room → Answer Block) (b : Block) : Type 0 where
  pub enough : (room : Room) → Enough b room → answer room ≡ good b
  pub short : (room : Room) → Short b room → answer room ≡ refused no_room₁₃ 0

-- What is built is b, with room enough, and 13 is given with place 0 for want of room: in both cases the room alone decided. Any other refusal
-- is given whatever the room.
pub record Thirteen (answer : Room → Answer Block) (b : Block) : Type 0 where
  pub made : (room : Room) (x : Block) → answer room ≡ good x → (x ≡ b) × Enough b room × Decided answer b
  pub given : (room : Room) (p : ℕ) → answer room ≡ refused no_room₁₃ p → (p ≡ 0) × Short b room × Decided answer b
  pub other : (room : Room) (n p : ℕ) → answer room ≡ refused n p → (n ≡ 13 → ⊥) → (more : Room) → answer more ≡ refused n p

-- proved in proofs/Thirteen.antt
abbrev pub BuildThirteen : Type 0
BuildThirteen = (w : ℕ) (t cs vs : List ℕ) → Thirteen (built w t cs vs) (block_of (batches_of w t (operations cs vs)))
