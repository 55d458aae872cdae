-- No public contract cites this page: what the checks of the input before its operations say of the rules' answer. `w` is the width.
use Rattle.std.specs.Prelude.{◌≡◌, not, List, map, ℕ, Result, Ok, Err, IfOk}
use Rattle.rules.specs.Answer.{Answer, good, refused, refuse, refuse_first}
use Rattle.rules.specs.Refusals.{no_room₁₃}
use Rattle.rules.specs.Operations.{operations, op_fault}
use Rattle.rules.specs.Batching.{batches_of}
use Rattle.rules.specs.Record.{Block, block_of}
use Rattle.rules.specs.Block.{Room}
use Rattle.rules.specs.Functions.{room_for, built}
use Rattle.refusal.specs.declared.Refusal.{Refusal}
use Rattle.batcher.specs.declared.Input.{Input}
use Rattle.refusal.specs.Told.{number_of, place_of}

-- a refusal is the answer, whatever would follow
abbrev pub heard : {A B : Type 0} → Result B Refusal → Answer A → Answer A
heard (Ok b) r = r
heard (Err e) r = refused (number_of e) (place_of e)

-- the last guard: what is left to decide once the operations have passed
abbrev pub placed : Block → Room → Answer Block
placed b room = refuse (not (room_for b room)) no_room₁₃ 0 (good b)

-- the block of a list
abbrev pub block_for : ℕ → List ℕ → List ℕ → List ℕ → Block
block_for w t cs vs = block_of (batches_of w t (operations cs vs))

-- what is left once the input has passed
abbrev pub left : ℕ → List ℕ → List ℕ → List ℕ → Room → Answer Block
left w t cs vs room = refuse_first 0 (map (op_fault t) (operations cs vs)) (placed (block_for w t cs vs) room)

abbrev pub left_of : Input → Room → Answer Block
left_of k = left k.width k.table.now k.codes.now k.values.now

-- what has passed is the list and its table, at width 8
pub record Checked (t cs vs : List ℕ) (v : Result Input Refusal) : Type 0 where
  pub same : IfOk v (λ k. (k.width ≡ 8) × (k.table.now ≡ t) × (k.codes.now ≡ cs) × (k.values.now ≡ vs))
  pub decides : (room : Room) → built 8 t cs vs room ≡ heard v (left 8 t cs vs room)
