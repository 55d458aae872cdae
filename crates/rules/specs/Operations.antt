-- Document 01, "Operations and their table".
use Rattle.std.specs.Prelude.{Bool, cond, not, ◌&&◌, List, [], ◌∷◌, map, ℕ, length, get_or, leb, ltb, eqb}
use Rattle.rules.specs.Lists.{every}
use Rattle.rules.specs.Answer.{or_else}
use Rattle.rules.specs.Refusals.{unassigned₄, bad_value₁₇}

-- "An operation is an opcode 0..127 and a value"
pub record Op : Type 0 where
  pub code : ℕ
  pub value : ℕ

-- "opcodes lie in a lent run of bytes, and values lie in a lent run of 64-bit numbers of the same length"
unfoldable pub operations : List ℕ → List ℕ → List Op
operations [] vs = []
operations (c ∷ cs) [] = []
operations (c ∷ cs) (v ∷ vs) = record { code = c; value = v } ∷ operations cs vs

unfoldable pub codes : List Op → List ℕ
codes = map (λ (x : Op). x.code)

unfoldable pub values : List Op → List ℕ
values = map (λ (x : Op). x.value)

-- "one kind per opcode: 0 no value; 1 an immediate, placed in a group; 2 a value carried but never placed; 3 unassigned"
abbrev pub kind_of : List ℕ → ℕ → ℕ
kind_of t c = get_or t c 3

-- "a table of exactly 128 bytes"; "A good table has only kinds 0..3 and kind 0 for opcode 0 (Noop)"
unfoldable pub good_table : List ℕ → Bool
good_table t = eqb (length t) 128 && (eqb (kind_of t 0) 0 && every (λ (k : ℕ). leb k 3) t)

unfoldable pub noop : Op
noop = record { code = 0; value = 0 }

-- "opcode under 128, kind not 3" (no good table has a kind over 3)
unfoldable pub assigned : List ℕ → ℕ → Bool
assigned t c = ltb c 128 && ltb (kind_of t c) 3

-- kinds 1 and 2: the operation has a value
unfoldable pub valued : List ℕ → ℕ → Bool
valued t c = not (eqb (kind_of t c) 0)

-- kind 1: the value is placed in a group
unfoldable pub has_immediate : List ℕ → Op → Bool
has_immediate t x = eqb (kind_of t x.code) 1

-- 2^64 - 2^32 + 1
abbrev pub field : ℕ
field = 18446744069414584321

-- "value 0 for kind 0, otherwise value below 18446744069414584321"
unfoldable pub value_right : List ℕ → Op → Bool
value_right t x = cond (valued t x.code) (ltb x.value field) (eqb x.value 0)

unfoldable pub admissible : List ℕ → Op → Bool
admissible t x = assigned t x.code && value_right t x

-- "operation not admissible" (document 01) is two faults. M-101: "4 stays for an opcode of 128 or more or of kind 3"
unfoldable pub code_fault : List ℕ → ℕ → ℕ
code_fault t c = cond (assigned t c) 0 unassigned₄

-- "and a new 17 says that the value is not below the field size, or is nonzero on kind 0"
unfoldable pub value_fault : List ℕ → Op → ℕ
value_fault t x = cond (value_right t x) 0 bad_value₁₇

-- an operation's fault, 0 where it is admissible: "Opcode is looked at first"
unfoldable pub op_fault : List ℕ → Op → ℕ
op_fault t x = or_else (code_fault t x.code) (value_fault t x)
