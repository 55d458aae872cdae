-- What `build` replies and leaves in the lent runs, by the rules' answer.
use Rattle.std.specs.Prelude.{◌≡◌, Result}
use Rattle.rules.specs.Answer.{Answer}
use Rattle.rules.specs.Record.{Block, no_block}
use Rattle.rules.specs.Block.{Room}
use Rattle.rules.specs.Functions.{Arena, room_in, filled, leaves}
use Rattle.refusal.specs.declared.Refusal.{Refusal}
use Rattle.refusal.specs.Told.{told}
use Rattle.batcher.specs.declared.Totals.{Totals}
use Rattle.batcher.specs.Batched.{built_of}

-- `answer` is what the rules answer for a room: here for the room that the lent runs have
pub record Outcome (answer : Room → Answer Block) (r : Result Totals Refusal) (before after : Arena) : Type 0 where
  pub reply : told r ≡ built_of (answer (room_in before))
  pub runs : after ≡ filled before (leaves no_block (answer (room_in before)))
