-- What the encoder's parts say: cited by the contracts of private functions only.
use Rattle.std.specs.Prelude.{cond, List, ℕ, ◌+◌, length, ltb, sum_by}
use Rattle.rules.specs.Answer.{Answer, good, refuse}
use Rattle.rules.specs.Refusals.{no_room₁₃}
use Rattle.rules.specs.Operations.{operations, valued}
use Rattle.rules.specs.Bytes.{ops_bytes}
use Rattle.rules.specs.Block.{block_bytes}
use Rattle.rules.specs.Functions.{block_in}
use Rattle.checks.specs.Arena.{lying}
use Rattle.encoder.specs.declared.input.Input.{Input}

-- how many bytes an operation with this opcode takes: "1 or 9 per operation"
abbrev pub op_size : List ℕ → ℕ → ℕ
op_size t c = cond (valued t c) 9 1

-- and operations with these opcodes
abbrev pub ops_size : List ℕ → List ℕ → ℕ
ops_size t cs = sum_by (op_size t) cs

-- the bytes of its operations, and of the whole block
abbrev pub ops_of : Input → List ℕ
ops_of i = ops_bytes i.table.now (operations i.arena.codes.now i.arena.values.now)

abbrev pub bytes_of : Input → List ℕ
bytes_of i = block_bytes i.table.now (block_in (lying i.arena))

-- what is left of the answer for a buffer of some size once nothing that is looked at first was refused
abbrev pub left_of : Input → ℕ → ℕ → Answer (List ℕ)
left_of i size at = refuse (ltb size (at + length (bytes_of i))) no_room₁₃ 0 (good (bytes_of i))
