-- What the head of a block is good for: the room that it names is enough, and its refusals are decode's.
use Rattle.std.specs.Prelude.{◌≡◌, List, ℕ, ◌≤◌, length}
use Rattle.rules.specs.Answer.{refused, found}
use Rattle.rules.specs.Refusals.{no_room₁₃}
use Rattle.rules.specs.Block.{Room, Head}
use Rattle.rules.specs.Functions.{most, decoded, headed}

pub record Enough (w : ℕ) (t s : List ℕ) (at : ℕ) : Type 0 where
  -- with as much room as the head names decode answers as with the most that a block can need
  pub enough : (room : Room) (h : Head) (next : ℕ) → headed t s at ≡ found h next → length h.ops ≤ room.codes → length h.ops ≤ room.values → h.batches ≤ room.records
      → decoded w t s at room ≡ decoded w t s at most
  -- a block whose head is refused is refused in the same way
  pub alike : (n p : ℕ) → headed t s at ≡ refused n p → decoded w t s at most ≡ refused n p
  -- and not for want of room
  pub never : (p : ℕ) → headed t s at ≡ refused no_room₁₃ p → ⊥
