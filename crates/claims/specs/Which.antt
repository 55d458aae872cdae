-- M-101: "Reading one operation must say which: 4 stays for an opcode of 128 or more or of kind 3, and a new 17 says that the value is not below the field
-- size, or is nonzero on kind 0. Place is the operation as before." "Build, encode, decode and the commitment check pass it on": who is told 4 or 17 knows
-- which operation it is and what is wrong with it; and, of a list, that those before it have no fault; of a block's bytes, that those before it are read.
use Rattle.std.specs.Prelude.{◌≡◌, ◌⊎◌, true, cond, List, ℕ, ◌+◌, ◌≤◌, ◌<◌, length, get_or, take}
use Rattle.rules.specs.Lists.{All}
use Rattle.rules.specs.Digits.{le_at}
use Rattle.rules.specs.Answer.{Answer, refused, found}
use Rattle.rules.specs.Operations.{Op, operations, kind_of, good_table, noop, valued, op_fault}
use Rattle.rules.specs.Bytes.{count_at, ops_at}
use Rattle.rules.specs.Block.{Room}
use Rattle.rules.specs.Functions.{Arena, block_in, built, encoded, decoded, headed, op_here, commitment_checked}

-- "an opcode of 128 or more or of kind 3"
abbrev pub BadOpcode : List ℕ → Op → Type 0
BadOpcode t x = (128 ≤ x.code) ⊎ (kind_of t x.code ≡ 3)

-- "the value is not below the field size, or is nonzero on kind 0"
abbrev pub BadValue : List ℕ → Op → Type 0
BadValue t x = (18446744069414584321 ≤ x.value) ⊎ ((kind_of t x.code ≡ 0) × (1 ≤ x.value))

abbrev pub Exactly : Type 0 → Type 0 → Type 0
Exactly A B = (A → B) × (B → A)

-- which number an operation has: "Opcode is looked at first"
pub record Which (t : List ℕ) (x : Op) : Type 0 where
  pub four : Exactly (op_fault t x ≡ 4) (BadOpcode t x)
  pub seventeen : Exactly (op_fault t x ≡ 17) ((BadOpcode t x → ⊥) × BadValue t x)
  pub none : Exactly (op_fault t x ≡ 0) ((BadOpcode t x → ⊥) × (BadValue t x → ⊥))

-- an answer is 4 or 17, with a place
abbrev pub Told : {A : Type 0} → Answer A → ℕ → ℕ → Type 0
Told d n p = (d ≡ refused n p) × ((n ≡ 4) ⊎ (n ≡ 17))

-- of a list: the operation at the place has this fault, and those before it have none
pub record FirstAtFault (t : List ℕ) (xs : List Op) (n p : ℕ) : Type 0 where
  pub table : good_table t ≡ true
  pub under : p < length xs
  pub fault : op_fault t (get_or xs p noop) ≡ n
  pub before : All (λ x. op_fault t x ≡ 0) (take p xs)

-- the operation whose bytes begin at a place; past the end of the bytes there are zeros
abbrev pub op_there : List ℕ → List ℕ → ℕ → Op
op_there t s at = record { code = get_or s at 0; value = cond (valued t (get_or s at 0)) (le_at 8 s (at + 1)) 0 }

-- of bytes: the operation there has this fault; 17 is told only of a value whose eight bytes are all there
pub record FaultThere (t s : List ℕ) (at n : ℕ) : Type 0 where
  pub table : good_table t ≡ true
  pub inside : at < length s
  pub fault : op_fault t (op_there t s at) ≡ n
  pub whole : n ≡ 17 → at + 9 ≤ length s

-- of a block's bytes: p of its operations are read, and the next one has this fault
pub record ReadToFault (t s : List ℕ) (at n p : ℕ) : Type 0 where
  pub count : ℕ
  pub start : ℕ
  pub counted : count_at s at ≡ found count start
  pub under : p < count
  pub ops : List Op
  pub place : ℕ
  pub before : ops_at t s p start 0 ≡ found ops place
  pub there : FaultThere t s place n

pub record PassedOn (w : ℕ) : Type 0 where
  pub build : (t cs vs : List ℕ) (room : Room) (n p : ℕ) → Told (built w t cs vs room) n p → FirstAtFault t (operations cs vs) n p
  pub encode : (t : List ℕ) (a : Arena) (size at n p : ℕ) → Told (encoded w t a size at) n p → FirstAtFault t (block_in a).ops n p
  pub commitment : (t : List ℕ) (a : Arena) (n p : ℕ) → Told (commitment_checked w t a) n p → FirstAtFault t (block_in a).ops n p
  pub decode : (t s : List ℕ) (at : ℕ) (room : Room) (n p : ℕ) → Told (decoded w t s at room) n p → ReadToFault t s at n p
  pub head : (t s : List ℕ) (at n p : ℕ) → Told (headed t s at) n p → ReadToFault t s at n p
  pub reader : (t s : List ℕ) (at i n p : ℕ) → Told (op_here t s at i) n p → (p ≡ i) × FaultThere t s at n
