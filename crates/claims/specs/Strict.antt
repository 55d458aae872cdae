-- Strict reading, M-107: "The new halls may only take finished blocks. Add a profile: a block the decoder takes passes exactly if some non-empty list of at
-- most 16,384 admissible operations, batched by document 01, writes those very bytes. Otherwise the ordinary refusal comes if there is one, else a new 18".
use Rattle.std.specs.Prelude.{◌≡◌, true, List, [], ◌∷◌, ◌++◌, ◌⊎◌, ℕ, zero, suc, ◌+◌, ◌-◌, ◌≤◌, ◌<◌, length, take, drop}
use Rattle.rules.specs.Lists.{All}
use Rattle.rules.specs.Answer.{Read, found, refused}
use Rattle.rules.specs.Operations.{Op}
use Rattle.rules.specs.Batching.{batches_of}
use Rattle.rules.specs.Record.{Block, block_of, immediates}
use Rattle.rules.specs.Checks.{Held, held, under_count}
use Rattle.rules.specs.Block.{Room, block_bytes}
use Rattle.rules.specs.Functions.{room_for, decoded, strictly_decoded}
use Rattle.rules.specs.Strict.{own_list}
use Rattle.claims.specs.Left.{together}
use Rattle.claims.specs.Demand3.{Premises, Demand3}
use Rattle.claims.specs.Finished.{Bytes}

-- a list, "batched by document 01", and the bytes that this writes
abbrev pub batched : ℕ → List ℕ → List Op → Block
batched w t xs = block_of (batches_of w t xs)

abbrev pub bytes_of : ℕ → List ℕ → List Op → List ℕ
bytes_of w t xs = block_bytes t (batched w t xs)

-- xs is a "non-empty list of at most 16,384 admissible operations", and what it writes are the "very bytes" of s from `at` up to `next`
pub record Writes (w : ℕ) (t : List ℕ) (xs : List Op) (s : List ℕ) (at next : ℕ) : Type 0 where
  pub premises : Premises t xs
  pub before : List ℕ
  pub after : List ℕ
  pub whole : s ≡ before ++ (bytes_of w t xs ++ after)
  pub place : at ≡ length before
  pub end : next ≡ at + length (bytes_of w t xs)

-- the p-th batch of b is "the first batch that differs from batching the block's own list"
pub record Differs (w : ℕ) (t : List ℕ) (b : Block) (p : ℕ) : Type 0 where
  pub premises : Premises t (own_list b)
  -- the batches before it are the same, with their operations
  pub before : take p (held b) ≡ take p (held (batched w t (own_list b)))
  -- with it they are not: "an extra batch counting as different"
  pub here : take (p + 1) b.records ≡ take (p + 1) (batched w t (own_list b)).records → ⊥
  -- it is one of the block's, as an extra batch is
  pub own : p < length b.records

-- what 18 says: decode takes the block, and its "list is empty or over 16,384", or a batch differs
pub record Unfinished (w : ℕ) (t s : List ℕ) (at : ℕ) (room : Room) (p : ℕ) : Type 0 where
  pub block : Block
  pub next : ℕ
  pub taken : decoded w t s at room ≡ found block next
  pub why : (((length (own_list block) ≡ 0) ⊎ (16384 < length (own_list block))) × (p ≡ 0)) ⊎ Differs w t block p

pub record Eighteen (r : Read Block) : Type 0 where
  pub place : ℕ
  pub is : r ≡ refused 18 place

-- no group is empty but those that hold the immediates of the group before them, k of which are still to come
abbrev pub NoStray : List ℕ → ℕ → List (List Op) → Type 0
NoStray t k [] = Unit {0}
NoStray t zero ([] ∷ gs) = ⊥
NoStray t (suc k) ([] ∷ gs) = NoStray t k gs
NoStray t k ((x ∷ xs) ∷ gs) = NoStray t (length (immediates t (x ∷ xs))) gs

-- a batch that is not "an empty batch" and has no "stray empty group" and no "bit kept under M-100"
pub record Full (t : List ℕ) (h : Held) : Type 0 where
  pub some : 1 ≤ length (together h.groups)
  pub no_stray : NoStray t 0 (under_count h)
  pub no_flags : All (λ f. f ≡ 0) (drop h.batch.count h.batch.flags)

-- reading a list of bytes strictly from a place on took this block, and stopped at `next`
abbrev pub Passed : ℕ → List ℕ → List ℕ → ℕ → Room → Block → ℕ → Type 0
Passed w t s at room b next = strictly_decoded w t s at room ≡ found b next

pub record Strict (w : ℕ) : Type 0 where
  -- "a block the decoder takes passes exactly if some .. list .. writes those very bytes": what passes is taken, and its own list writes them; and what
  -- is taken, where some list writes them, passes
  pub only : (t s : List ℕ) → Bytes s → (at : ℕ) (room : Room) (b : Block) (next : ℕ) → Passed w t s at room b next
      → (decoded w t s at room ≡ found b next) × Writes w t (own_list b) s at next
  pub whenever : (t s : List ℕ) → Bytes s → (at : ℕ) (room : Room) (b : Block) (next : ℕ) (xs : List Op) → decoded w t s at room ≡ found b next
      → Writes w t xs s at next → Passed w t s at room b next
  -- every built block passes, at any place and whatever surrounds it
  pub built : (t : List ℕ) (xs : List Op) → Premises t xs → (before after : List ℕ) (room : Room)
      → length (before ++ (bytes_of w t xs ++ after)) ≤ 1048576 → room_for (batched w t xs) room ≡ true
      → Passed w t (before ++ (bytes_of w t xs ++ after)) (length before) room (batched w t xs) (length before + length (bytes_of w t xs))
  -- what passes is its own list, batched, and has all of demand 3 for it
  pub is : (t s : List ℕ) (at : ℕ) (room : Room) (b : Block) (next : ℕ) → Passed w t s at room b next → b ≡ batched w t (own_list b)
  pub good : (t s : List ℕ) (at : ℕ) (room : Room) (b : Block) (next : ℕ) → Passed w t s at room b next → Premises t (own_list b) × Demand3 w t (own_list b) b
  -- "So an empty batch, a stray empty group or a bit kept under M-100 ends in 18": no batch of a block that passes is or has one
  pub none_kept : (t s : List ℕ) (at : ℕ) (room : Room) (b : Block) (next : ℕ) → Passed w t s at room b next → All (Full t) (held b)
  -- two blocks that pass and have one list are one block, and their bytes are the same
  pub alike : (t s s' : List ℕ) → Bytes s → Bytes s' → (at at' : ℕ) (room room' : Room) (b b' : Block) (next next' : ℕ)
      → Passed w t s at room b next → Passed w t s' at' room' b' next' → own_list b ≡ own_list b'
      → (b ≡ b') × (take (next - at) (drop at s) ≡ take (next' - at') (drop at' s'))
  -- and no two lists write the same bytes
  pub one : (t : List ℕ) (xs ys : List Op) → Premises t xs → Premises t ys → bytes_of w t xs ≡ bytes_of w t ys → xs ≡ ys
  -- "Otherwise the ordinary refusal comes if there is one, else a new 18"; and where there is no 18 the answer is decode's
  pub ordinary : (t s : List ℕ) (at : ℕ) (room : Room) (n p : ℕ) → decoded w t s at room ≡ refused n p → strictly_decoded w t s at room ≡ refused n p
  pub either : (t s : List ℕ) (at : ℕ) (room : Room) (b : Block) (next : ℕ) → decoded w t s at room ≡ found b next
      → Passed w t s at room b next ⊎ Eighteen (strictly_decoded w t s at room)
  pub otherwise : (t s : List ℕ) (at : ℕ) (room : Room) → ((p : ℕ) → strictly_decoded w t s at room ≡ refused 18 p → ⊥)
      → strictly_decoded w t s at room ≡ decoded w t s at room
  -- 18 comes "with the first batch that differs ... If that list is empty or over 16,384, the place is 0."
  pub eighteen : (t s : List ℕ) (at : ℕ) (room : Room) (p : ℕ) → strictly_decoded w t s at room ≡ refused 18 p → Unfinished w t s at room p
