-- What the driver replies, and what it leaves in the lent runs.
use Rattle.std.specs.Prelude.{◌≡◌, List, map, ℕ, Result, length}
use Rattle.rules.specs.Answer.{Answer, good, refused, refuse_first}
use Rattle.rules.specs.Operations.{operations, op_fault}
use Rattle.rules.specs.Batching.{batches_of}
use Rattle.rules.specs.Record.{Block, block_of}
use Rattle.rules.specs.Functions.{Arena, filled}
use Rattle.refusal.specs.declared.Refusal.{Refusal}
use Rattle.refusal.specs.Told.{told}
use Rattle.batcher.specs.declared.Totals.{Totals}

-- what the rules answer for a list at width w: the first operation that is not admissible, or the block
abbrev pub listed : ℕ → List ℕ → List ℕ → List ℕ → Answer Block
listed w t cs vs = refuse_first 0 (map (op_fault t) (operations cs vs)) (good (block_of (batches_of w t (operations cs vs))))

abbrev pub built_of : Answer Block → Answer Totals
built_of (good b) = good (record { batches = length b.records; operations = length b.ops })
built_of (refused n p) = refused n p

-- nothing is said of what a refused list leaves in the runs
pub record Batched (answer : Answer Block) (r : Result Totals Refusal) (before after : Arena) : Type 0 where
  pub reply : told r ≡ built_of answer
  pub runs : (b : Block) → answer ≡ good b → after ≡ filled before b
