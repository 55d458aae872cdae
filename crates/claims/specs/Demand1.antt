-- Demand 1: "Any bytes, any lists and any lent buffer get an ending and a reply. Bad input is refused with document 01's number and place. A refused
-- build, map or decode leaves its outputs all zero; a refused encode changes no byte."
-- That a function ends for any inputs and answers what these definitions say is its contract, which has no `requires`. Here stands what the definitions
-- answer, once for all of them.
use Rattle.std.specs.Prelude.{◌≡◌, ◌⊎◌, List, [], ◌∷◌, ◌++◌, ℕ, zero, suc, ◌+◌, ◌<◌, pos, length, replicate}
use Rattle.rules.specs.Answer.{Answer, good, refused, Read, item_of}
use Rattle.rules.specs.Record.{Record, Block, no_block}
use Rattle.rules.specs.Bytes.{count_at}
use Rattle.rules.specs.Block.{Room, Head, head_at}
use Rattle.rules.specs.Functions.{Arena, arena, block_in, filled, built, encoded, written, decoded, strictly_decoded, Side, Compared, reported, refused_by, compared, report_left, headed, count_here, op_here, structure_checked, padding_checked, commitment_checked, table_of, table_left, group_lookup, next_lookup, leaves}

-- a number of refusal, and how many places it can have: its place is under that, so it is 0 where there is one
pub record Refusal : Type 0 where
  pub number : ℕ
  pub places : ℕ

infixl 70 ◌of◌
abbrev pub ◌of◌ : ℕ → ℕ → Refusal
n of k = record { number = n; places = k }

abbrev pub OneOf : List Refusal → ℕ → ℕ → Type 0
OneOf [] n p = ⊥
OneOf (r ∷ rs) n p = ((n ≡ r.number) × (p < r.places)) ⊎ OneOf rs n p

-- an answer: a result, or one of these refusals
abbrev pub Replies : {A : Type 0} → List Refusal → Answer A → Type 0
Replies rs (good a) = Unit {0}
Replies rs (refused n p) = OneOf rs n p

abbrev pub ops : Arena → ℕ
ops a = length (block_in a).ops

abbrev pub batches : Arena → ℕ
batches a = length (block_in a).records

-- the refusals of each function, in document 01's order, where there are n operations and k batches; 4 and M-101's 17 go operation by operation, and 15
-- has the batch total as a last place
abbrev pub build_refusals : ℕ → List Refusal
build_refusals n = 3 of 1 ∷ 14 of 1 ∷ 12 of 1 ∷ 4 of n ∷ 17 of n ∷ 13 of 1 ∷ []

abbrev pub encode_refusals : ℕ → ℕ → List Refusal
encode_refusals n k = 3 of 1 ∷ 14 of 1 ∷ 1 of 1 ∷ 15 of (k + 1) ∷ 4 of n ∷ 17 of n ∷ 13 of 1 ∷ []

-- of a buffer of this size: 2 has the byte where an item starts, which may be the buffer's end; 4 and 17 an operation; 6 to 10 a batch
abbrev pub decode_refusals : ℕ → ℕ → ℕ → List Refusal
decode_refusals size n k = 3 of 1 ∷ 14 of 1 ∷ 1 of 1 ∷ 2 of (size + 1) ∷ 13 of 1 ∷ 4 of n ∷ 17 of n ∷ 5 of 1 ∷ 6 of k ∷ 7 of k ∷ 8 of k ∷ 9 of k ∷ 10 of k ∷ 11 of 1 ∷ []

-- M-107: "the ordinary refusal comes if there is one, else a new 18", with place 0 for the block's list, else one of its batches
abbrev pub strict_refusals : ℕ → ℕ → ℕ → List Refusal
strict_refusals size n k = decode_refusals size n k ++ (18 of 1 ∷ 18 of k ∷ [])

-- how many operations and batches the block at a place says that it has; 0 where its bytes do not come to say it
abbrev pub told : Read ℕ → ℕ
told (good i) = i.item
told (refused n p) = 0

abbrev pub told_batches : Read Head → ℕ
told_batches (good h) = h.item.batches
told_batches (refused n p) = 0

-- M-105, by mark: 1 and 2 have decode's refusals of the first and of the second block, "A lent report too short gives 13 last, without a mark", and there
-- is no other mark
abbrev pub side_refusals : Side → List Refusal
side_refusals x = decode_refusals (length x.bytes) (told (count_at x.bytes x.at)) (told_batches (head_at x.table x.bytes x.at x.room))

abbrev pub compare_refusals : Side → Side → ℕ → List Refusal
compare_refusals x y zero = 13 of 1 ∷ []
compare_refusals x y (suc zero) = side_refusals x
compare_refusals x y (suc (suc zero)) = side_refusals y
compare_refusals x y (suc (suc (suc m))) = []

abbrev pub RepliesBy : (ℕ → List Refusal) → Compared → Type 0
RepliesBy rs (reported es) = Unit {0}
RepliesBy rs (refused_by m n p) = OneOf (rs m) n p

-- of its head alone, which wants no room
abbrev pub head_refusals : ℕ → ℕ → List Refusal
head_refusals size n = 3 of 1 ∷ 14 of 1 ∷ 1 of 1 ∷ 2 of (size + 1) ∷ 4 of n ∷ 17 of n ∷ 5 of 1 ∷ []

-- the reader's steps; the operation is the i-th
abbrev pub count_refusals : ℕ → List Refusal
count_refusals size = 3 of 1 ∷ 1 of 1 ∷ 2 of (size + 1) ∷ []

abbrev pub op_refusals : ℕ → ℕ → List Refusal
op_refusals size i = 3 of 1 ∷ 14 of 1 ∷ 1 of 1 ∷ 2 of (size + 1) ∷ 4 of (i + 1) ∷ 17 of (i + 1) ∷ []

abbrev pub structure_refusals : ℕ → List Refusal
structure_refusals k = 3 of 1 ∷ 15 of (k + 1) ∷ []

abbrev pub padding_refusals : ℕ → List Refusal
padding_refusals k = 3 of 1 ∷ 15 of (k + 1) ∷ 10 of k ∷ []

abbrev pub commitment_refusals : ℕ → ℕ → List Refusal
commitment_refusals n k = 3 of 1 ∷ 14 of 1 ∷ 15 of (k + 1) ∷ 4 of n ∷ 17 of n ∷ 16 of k ∷ 8 of k ∷ 9 of k ∷ []

abbrev pub table_refusals : ℕ → List Refusal
table_refusals k = 3 of 1 ∷ 15 of (k + 1) ∷ 10 of k ∷ 13 of 1 ∷ []

-- the lookups in one batch; those in a table refuse nothing
abbrev pub lookup_refusals : List Refusal
lookup_refusals = 15 of 1 ∷ []

-- an arena of the same lengths, all zero
abbrev pub zeros : Arena → Arena
zeros a = arena (replicate (length a.codes) 0) (replicate (length a.values) 0) (replicate (length a.records) 0)

pub record Demand1 (w : ℕ) : Type 0 where
  pub build : (t cs vs : List ℕ) (room : Room) → Replies (build_refusals (length cs)) (built w t cs vs room)
  pub encode : (t : List ℕ) (a : Arena) (size at : ℕ) → Replies (encode_refusals (ops a) (batches a)) (encoded w t a size at)
  pub decode : (t s : List ℕ) (at : ℕ) (room : Room) → Replies (decode_refusals (length s) (told (count_at s at)) (told_batches (head_at t s at room))) (decoded w t s at room)
  pub strict : (t s : List ℕ) (at : ℕ) (room : Room) → Replies (strict_refusals (length s) (told (count_at s at)) (told_batches (head_at t s at room))) (strictly_decoded w t s at room)
  pub compare : (x y : Side) (room : ℕ) → RepliesBy (compare_refusals x y) (compared w x y room)
  pub head : (t s : List ℕ) (at : ℕ) → Replies (head_refusals (length s) (told (count_at s at))) (headed t s at)
  pub reader_count : (s : List ℕ) (at : ℕ) → Replies (count_refusals (length s)) (count_here s at)
  pub reader_op : (t s : List ℕ) (at i : ℕ) → Replies (op_refusals (length s) i) (op_here t s at i)
  pub structure : (a : Arena) → Replies (structure_refusals (batches a)) (structure_checked w a)
  pub padding : (a : Arena) → Replies (padding_refusals (batches a)) (padding_checked w a)
  pub commitment : (t : List ℕ) (a : Arena) → Replies (commitment_refusals (ops a) (batches a)) (commitment_checked w t a)
  -- both tables
  pub table : (entries : Block → List ℕ) (a : Arena) (room : ℕ) → Replies (table_refusals (batches a)) (table_of entries w a room)
  pub group : (r : Record) (i : ℕ) → Replies lookup_refusals (group_lookup w r i)
  pub next : (r : Record) (g : ℕ) → Replies lookup_refusals (next_lookup w r g)
  -- "A refused build, map or decode leaves its outputs all zero"
  pub build_zeroes : (a : Arena) (n p : ℕ) → filled a (leaves no_block (refused n p)) ≡ zeros a
  pub decode_zeroes : (a : Arena) (n p : ℕ) → filled a (leaves no_block (item_of (refused n p))) ≡ zeros a
  pub table_zeroes : (out : List ℕ) (n p : ℕ) → table_left out (refused n p) ≡ replicate (length out) 0
  -- M-105: the lent report "ends zeroed"
  pub compare_zeroes : (room m n p : ℕ) → report_left room (refused_by m n p) ≡ replicate room (pos 0)
  -- "a refused encode changes no byte"
  pub encode_changes_nothing : (out : List ℕ) (at n p : ℕ) → written out at (refused n p) ≡ out
