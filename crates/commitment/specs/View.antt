-- What the private structs hold, in the definitions' words.
use Rattle.std.specs.Prelude.{ℕ, List, ◌+◌, get_or}
use Rattle.rules.specs.Operations.{Op, operations}
use Rattle.rules.specs.Record.{Record, record_at}
use Rattle.rules.specs.Functions.{Arena}
use Rattle.checks.specs.Arena.{lying}
use Rattle.checks.specs.Batch.{span}
use Rattle.commitment.specs.declared.Group.{Group}
use Rattle.commitment.specs.declared.Batch.{Batch}

abbrev pub ops_in : Group → List Op
ops_in g = operations g.codes.now g.values.now

abbrev pub arena_of : Batch → Arena
arena_of b = lying b.block.arena

abbrev pub record_of : Batch → Record
record_of b = record_at b.block.arena.records.now b.b

-- the operations of all batches
abbrev pub ops_of : Batch → List Op
ops_of b = operations b.block.arena.codes.now b.block.arena.values.now

-- the operations of its g-th group
abbrev pub group_of : Batch → ℕ → List Op
group_of b g = span (ops_of b) (b.from + get_or (record_of b).starts g 0) (b.from + get_or (record_of b).starts (g + 1) 0)
