-- The compare tool, M-105: "Nothing is reported exactly when the decoded blocks agree in every start, flag, number and count and in every operation. If
-- either is refused, only its refusal is given"; what swapping the blocks does, how long a report can be, and that entries fit what holds them.
use Rattle.std.specs.Prelude.{◌≡◌, cond, List, [], map, ◌⊎◌, ℕ, ◌+◌, ◌-◌, ◌*◌, ◌≤◌, ◌<◌, min, pos, neg_ℤ, ◌+ℤ◌, ◌-ℤ◌, length, take, drop, eqb}
use Rattle.std.proofs.Math.IntN.{sub_ℕ}
use Rattle.std.specs.Int.Signed.{mag}
use Rattle.rules.specs.Lists.{All}
use Rattle.rules.specs.Answer.{refused, found}
use Rattle.rules.specs.Record.{Block}
use Rattle.rules.specs.Functions.{Side, read_at, Compared, reported, refused_by, compared}
use Rattle.rules.specs.Strict.{own_list}
use Rattle.rules.specs.Compare.{padded_total, padding_total, raw_total, Entry, missing₆, blocks_apart}
use Rattle.claims.specs.Finished.{Bytes}
use Rattle.claims.specs.Which.{Exactly}

-- decode takes this block there, and stops at `next`
abbrev pub Takes : ℕ → Side → Block → ℕ → Type 0
Takes w x b next = read_at w x ≡ found b next

-- the bytes of a block that was taken
abbrev pub bytes_up_to : Side → ℕ → List ℕ
bytes_up_to x next = take (next - x.at) (drop x.at x.bytes)

-- both are taken, and they are one block: the same starts, flags, numbers, counts and operations
pub record Agree (w : ℕ) (x y : Side) : Type 0 where
  pub block : Block
  pub next₁ : ℕ
  pub next₂ : ℕ
  pub first : Takes w x block next₁
  pub second : Takes w y block next₂

-- an entry with the blocks swapped: its difference negated and, where a batch is missing, the other side, 1 for 2 and 2 for 1
abbrev pub mirrored : Entry → Entry
mirrored e =
    record {
      kind = e.kind;
      batch = e.batch;
      place = cond (eqb e.kind missing₆) (3 - e.place) e.place;
      difference = neg_ℤ e.difference;
    }

-- an answer with the blocks swapped: a refusal has the other mark, 1 for 2 and 2 for 1, or still none
abbrev pub mirrored_answer : Compared → Compared
mirrored_answer (reported es) = reported (map mirrored es)
mirrored_answer (refused_by m n p) = refused_by (cond (eqb m 0) 0 (3 - m)) n p

-- what holds an entry: one of ten kinds, a batch of a block, a place in a batch, a signed 32-bit difference
pub record Fits (e : Entry) : Type 0 where
  pub kind : (1 ≤ e.kind) × (e.kind ≤ 10)
  pub batch : e.batch < 16384
  pub place : e.place < 72
  pub difference : mag e.difference < 2147483648

-- whose a refusal is, by its mark: 1 for the first block's, 2 for the second's where the first is taken; 0 where both are and the report is too short
pub data Whose (w : ℕ) (x y : Side) (room : ℕ) : ℕ → ℕ → ℕ → Type 0 where
  first : {n p : ℕ} → read_at w x ≡ refused n p → Whose w x y room 1 n p
  second : {n p : ℕ} (a : Block) (next : ℕ) → Takes w x a next → read_at w y ≡ refused n p → Whose w x y room 2 n p
  short : (a b : Block) (next₁ next₂ : ℕ) → Takes w x a next₁ → Takes w y b next₂ → room < length (blocks_apart a b) → Whose w x y room 0 13 0

pub record Compare (w : ℕ) : Type 0 where
  -- "Nothing is reported exactly when the decoded blocks agree in every start, flag, number and count and in every operation": of two blocks, and of the
  -- answer, whatever the report's length
  pub nothing : (x y : Side) (a b : Block) (next₁ next₂ : ℕ) → Takes w x a next₁ → Takes w y b next₂ → Exactly (blocks_apart a b ≡ []) (a ≡ b)
  pub answer : (x y : Side) (room : ℕ) → Exactly (compared w x y room ≡ reported []) (Agree w x y)
  -- and under one table exactly when their bytes are the same
  pub bytes : (x y : Side) → x.table ≡ y.table → Bytes x.bytes → Bytes y.bytes
      → (a b : Block) (next₁ next₂ : ℕ) → Takes w x a next₁ → Takes w y b next₂ → Exactly (blocks_apart a b ≡ []) (bytes_up_to x next₁ ≡ bytes_up_to y next₂)
  -- so a block does not differ from itself, and the blocks swapped give the same entries, each with "second minus first" and "missing on the other side"
  -- turned round; and so for the answer, unless both are refused: then it is "the first one's"
  pub itself : (a : Block) → blocks_apart a a ≡ []
  pub swap : (a b : Block) → blocks_apart b a ≡ map mirrored (blocks_apart a b)
  pub swap_answer : (x y : Side) (room : ℕ) (a : Block) (next : ℕ) → Takes w x a next ⊎ Takes w y a next → compared w y x room ≡ mirrored_answer (compared w x y room)
  -- "If either is refused, only its refusal is given, the first one's if both are, with a mark saying which block." "A lent report too short gives 13
  -- last, without a mark"
  pub refusals : (x y : Side) (room m n p : ℕ) → Exactly (compared w x y room ≡ refused_by m n p) (Whose w x y room m n p)
  -- the length: five for a batch that both have, one for a missing one, and four; and 81,923 at most, which is one less than 5 * 16,384 + 4, as 16,384
  -- batches on both sides are as many. So long a report is never too short.
  pub length_most : (a b : Block) → length (blocks_apart a b) ≤ 5 * min (length a.records) (length b.records)
      + (length a.records - length b.records) + (length b.records - length a.records) + 4
  pub longest : (x y : Side) (a b : Block) (next₁ next₂ : ℕ) → Takes w x a next₁ → Takes w y b next₂ → length (blocks_apart a b) ≤ 81923
  pub enough : (x y : Side) (room : ℕ) → 81923 ≤ room → (a b : Block) (next₁ next₂ : ℕ) → Takes w x a next₁ → Takes w y b next₂
      → compared w x y room ≡ reported (blocks_apart a b)
  -- every entry fits
  pub fits : (x y : Side) (a b : Block) (next₁ next₂ : ℕ) → Takes w x a next₁ → Takes w y b next₂ → All Fits (blocks_apart a b)
  -- the totals: raw operations and paddings are the padded operations, and the raw ones are those of the block's own list
  pub raw : (x : Side) (a : Block) (next : ℕ) → Takes w x a next → raw_total a + padding_total a ≡ padded_total a
  pub own : (x : Side) (a : Block) (next : ℕ) → Takes w x a next → raw_total a ≡ length (own_list a)
  -- "the difference is second minus first, negative where the second is smaller": added to the first it gives the second, and it is what code subtracts
  pub difference : (m n : ℕ) → pos m +ℤ sub_ℕ n m ≡ pos n
  pub minus : (m n : ℕ) → pos n -ℤ pos m ≡ sub_ℕ n m

-- two blocks whose report has the greatest length
pub record Reached (w : ℕ) : Type 0 where
  pub x : Side
  pub y : Side
  pub a : Block
  pub b : Block
  pub next₁ : ℕ
  pub next₂ : ℕ
  pub first : Takes w x a next₁
  pub second : Takes w y b next₂
  pub is : length (blocks_apart a b) ≡ 81923
