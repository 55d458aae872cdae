-- What is promised of document 01's definitions, each statement whole, for a batch width. Proved for 8, document 01's, in proofs/Claims.antt (`claims_8`).
use Rattle.std.specs.Prelude.{◌≡◌, true, List, ℕ, ◌+◌, ◌-◌, ◌≤◌, length, take, drop}
use Rattle.rules.specs.Answer.{good, found}
use Rattle.rules.specs.Operations.{Op, good_table}
use Rattle.rules.specs.Batching.{batches_of}
use Rattle.rules.specs.Record.{Record, Block, block_of, NineAndEight}
use Rattle.rules.specs.Block.{Room, block_bytes}
use Rattle.rules.specs.Functions.{Arena, block_in, encoded, decoded, padding_checked, commitment_checked}
use Rattle.claims.specs.Sizes.{EndedCount, BlockLength}
use Rattle.claims.specs.Demand1.{Demand1}
use Rattle.claims.specs.Demand3.{lent, Premises, Demand3}
use Rattle.claims.specs.Passes.{Passes}
use Rattle.claims.specs.Finished.{Bytes, Finished}
use Rattle.claims.specs.Strict.{Strict}
use Rattle.claims.specs.Compare.{Compare, Reached}
use Rattle.claims.specs.OneList.{OneList}
use Rattle.claims.specs.Settled.{Returns, Needed}
use Rattle.claims.specs.Which.{Which, PassedOn}
use Rattle.claims.specs.Kept.{SameButKept, ArenasButKept, Unread, UnreadBy, Kept}
use Rattle.rules.specs.Lists.{All}

-- decoding a list of bytes from a place on took this block, and stopped at `next`
abbrev pub Taken : ℕ → List ℕ → List ℕ → ℕ → Room → Block → ℕ → Type 0
Taken w t s at room b next = decoded w t s at room ≡ found b next

pub record Claims (w : ℕ) : Type 0 where
  pub demand1 : Demand1 w
  pub demand3 : (t : List ℕ) (xs : List Op) → Premises t xs → Demand3 w t xs (block_of (batches_of w t xs))
  -- what build makes passes all three checks, and so does what decode takes
  pub build_passes : (t : List ℕ) (xs : List Op) → Premises t xs → Passes w t (block_of (batches_of w t xs))
  pub decode_passes : (t s : List ℕ) (at : ℕ) (room : Room) (b : Block) (next : ℕ) → Taken w t s at room b next → Passes w t b
  -- what decode took is whole
  pub finished : (t s : List ℕ) → Bytes s → (at : ℕ) (room : Room) (b : Block) (next : ℕ) → Taken w t s at room b next → Finished w t s at b next
  -- what decode took, encode writes again byte for byte
  pub again : (t s : List ℕ) → Bytes s → (at : ℕ) (room : Room) (b : Block) (next : ℕ) → Taken w t s at room b next
      → (size to : ℕ) → size ≤ 1048576 → to + length (block_bytes t b) ≤ size
      → (encoded w t (lent b) size to ≡ good (block_bytes t b)) × (take (next - at) (drop at s) ≡ block_bytes t b)
  -- no two byte strings for one block
  pub once : (t s s' : List ℕ) → Bytes s → Bytes s' → (at at' : ℕ) (room room' : Room) (b : Block) (next next' : ℕ)
      → Taken w t s at room b next → Taken w t s' at' room' b next' → take (next - at) (drop at s) ≡ take (next' - at') (drop at' s')
  -- "How do you know a file is finished?" M-107: what passes strict reading, and what its 18 says
  pub strict : Strict w
  -- M-105: what the report of two blocks says, how long it can be, and that it can be so long
  pub compare : Compare w
  pub reached : Reached w
  -- batch data that passes commitment belongs to one list
  pub one_list : OneList w
  -- what passes the checks, encoded and decoded; and that the condition for getting the same back is needed. This and `kept` are said of width 8: at a
  -- smaller one a lent record may have flags from the width on, which its bytes cannot say.
  pub returns : (t : List ℕ) (a : Arena) → padding_checked 8 a ≡ good tt → commitment_checked 8 t a ≡ good tt → Returns 8 t a
  pub needed : Needed
  -- M-100: flags at and above the group count change no answer of the checks, tables and lookups, and of encode only themselves; in the bytes of a block
  -- that is taken they may be cleared or set
  pub unread : (a c : Arena) → ArenasButKept a c → Unread w a c
  pub unread_by : (r q : Record) → SameButKept r q → UnreadBy w r q
  pub kept : (t s : List ℕ) → Bytes s → (at : ℕ) (room : Room) (b : Block) (next : ℕ) → Taken 8 t s at room b next → Kept 8 t s at room b next
  -- M-101: which of 4 and 17 an operation has; who is told one of them knows which operation has it
  pub which : (t : List ℕ) → good_table t ≡ true → (x : Op) → Which t x
  pub passed_on : PassedOn w
  -- sizes
  pub ended_count : EndedCount
  pub block_length : BlockLength
  pub lent_sized : (a : Arena) → All NineAndEight (block_in a).records
  pub built_sized : (t : List ℕ) (xs : List Op) → Premises t xs → All NineAndEight (block_of (batches_of w t xs)).records
  pub read_sized : (t s : List ℕ) (at : ℕ) (room : Room) (b : Block) (next : ℕ) → Taken w t s at room b next → All NineAndEight b.records
