-- M-100: "The padding check and the decoder now keep such a bit unread, the encoder writes it back, and the tables go on ignoring it." A bit that is kept
-- changes nothing else: no answer of a check, a table, a lookup, none of encode but for that bit; and in the bytes of a block that is taken it may be
-- cleared or set.
use Rattle.std.specs.Prelude.{◌≡◌, List, [], ◌∷◌, ℕ, ◌-◌, ◌≤◌, length, take, drop}
use Rattle.std.proofs.lemmas.List.Edits.{sets}
use Rattle.rules.specs.Lists.{All}
use Rattle.rules.specs.Answer.{Answer, good, refused, found}
use Rattle.rules.specs.Record.{Record, Block}
use Rattle.rules.specs.Bytes.{flag_bytes}
use Rattle.rules.specs.Block.{Room}
use Rattle.rules.specs.Functions.{Arena, block_in, encoded, decoded, structure_checked, padding_checked, commitment_checked, raw_tabled, padded_tabled, group_lookup, next_lookup}

-- two records, the same but for flags "at or above the group count", which are 0 or 1
pub record SameButKept (r q : Record) : Type 0 where
  pub starts : r.starts ≡ q.starts
  pub numbers : r.numbers ≡ q.numbers
  pub count : r.count ≡ q.count
  pub many : length r.flags ≡ length q.flags
  pub under : take r.count r.flags ≡ take r.count q.flags
  pub bits : All (λ f. f ≤ 1) (drop r.count r.flags) × All (λ f. f ≤ 1) (drop r.count q.flags)

-- record by record
abbrev pub AllButKept : List Record → List Record → Type 0
AllButKept [] [] = Unit {0}
AllButKept [] (q ∷ qs) = ⊥
AllButKept (r ∷ rs) [] = ⊥
AllButKept (r ∷ rs) (q ∷ qs) = SameButKept r q × AllButKept rs qs

-- two arenas, and two blocks, the same but for such flags
pub record ArenasButKept (a c : Arena) : Type 0 where
  pub codes : a.codes ≡ c.codes
  pub values : a.values ≡ c.values
  pub size : length a.records ≡ length c.records
  pub records : AllButKept (block_in a).records (block_in c).records

pub record BlocksButKept (b c : Block) : Type 0 where
  pub ops : b.ops ≡ c.ops
  pub records : AllButKept b.records c.records

-- bytes with the flags of these records as their last; a refusal stays as it is
abbrev pub reflagged : List Record → Answer (List ℕ) → Answer (List ℕ)
reflagged rs (good s) = good (sets s (length s - length rs) (flag_bytes rs))
reflagged rs (refused n p) = refused n p

-- the checks and both tables answer the same of both, refused or not; and so does encode, but that its last bytes are the flags
pub record Unread (w : ℕ) (a c : Arena) : Type 0 where
  pub structure : structure_checked w a ≡ structure_checked w c
  pub padding : padding_checked w a ≡ padding_checked w c
  pub commitment : (t : List ℕ) → commitment_checked w t a ≡ commitment_checked w t c
  pub raw_table_lem : (room : ℕ) → raw_tabled w a room ≡ raw_tabled w c room
  pub padded_table_lem : (room : ℕ) → padded_tabled w a room ≡ padded_tabled w c room
  pub encode : (t : List ℕ) (size at : ℕ) → reflagged (block_in c).records (encoded w t a size at) ≡ encoded w t c size at

-- and the lookups in one batch
pub record UnreadBy (w : ℕ) (r q : Record) : Type 0 where
  pub group : (i : ℕ) → group_lookup w r i ≡ group_lookup w q i
  pub next : (g : ℕ) → next_lookup w r g ≡ next_lookup w q g

-- s is the file, b the block that was taken from it, and next the place after it: the block's last bytes are its flags, a byte for each batch; and
-- where they are those of c instead, c is taken
pub record Kept (w : ℕ) (t s : List ℕ) (at : ℕ) (room : Room) (b : Block) (next : ℕ) : Type 0 where
  pub flags : take (length b.records) (drop (next - length b.records) s) ≡ flag_bytes b.records
  pub taken : (c : Block) → BlocksButKept b c → decoded w t (sets s (next - length b.records) (flag_bytes c.records)) at room ≡ found c next
