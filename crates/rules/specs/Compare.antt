-- Request M-105, "Compare tool": how two decoded blocks differ.
use Rattle.std.specs.Prelude.{Bool, cond, ◌&&◌, List, [], ◌∷◌, ◌++◌, map, ℕ, ◌+◌, ◌-◌, ℤ, pos, length, take, drop, eqb}
use Rattle.std.proofs.Math.IntN.{sub_ℕ}
use Rattle.rules.specs.Lists.{total}
use Rattle.rules.specs.Operations.{Op}
use Rattle.rules.specs.Record.{Record, Block, differences}
use Rattle.rules.specs.Checks.{ninth}

-- ---- the totals of a block: "batches, padded operations, raw operations and paddings"

unfoldable pub batch_total : Block → ℕ
batch_total b = length b.records

unfoldable pub padded_total : Block → ℕ
padded_total b = length b.ops

-- how many flags are set
unfoldable pub flags_set : List ℕ → ℕ
flags_set [] = 0
flags_set (f ∷ fs) = cond (eqb f 0) 0 1 + flags_set fs

-- M-102: "only flags under the group count are paddings"
unfoldable pub paddings_in : Record → ℕ
paddings_in r = flags_set (take r.count r.flags)

unfoldable pub padding_total : Block → ℕ
padding_total b = total (map paddings_in b.records)

-- the padded operations that are no paddings
unfoldable pub raw_total : Block → ℕ
raw_total b = padded_total b - padding_total b

-- ---- an entry of the report: its kind, and what that kind tells. What it does not tell is 0.

pub record Entry : Type 0 where
  pub kind : ℕ
  pub batch : ℕ
  pub place : ℕ
  pub difference : ℤ

-- the kinds, a name for each, which ends in its number. These tell a batch and a group:
abbrev pub other_number₁ : ℕ
other_number₁ = 1

abbrev pub other_flag₂ : ℕ
other_flag₂ = 2

abbrev pub other_length₃ : ℕ
other_length₃ = 3

-- a batch, and the operation's place in it
abbrev pub other_operation₄ : ℕ
other_operation₄ = 4

-- a batch
abbrev pub other_count₅ : ℕ
other_count₅ = 5

-- a batch, and as its place the side that lacks it: 1 is the first, 2 is the second
abbrev pub missing₆ : ℕ
missing₆ = 6

-- and these tell a difference of totals
abbrev pub batches₇ : ℕ
batches₇ = 7

abbrev pub padded₈ : ℕ
padded₈ = 8

abbrev pub raw₉ : ℕ
raw₉ = 9

abbrev pub paddings₁₀ : ℕ
paddings₁₀ = 10

abbrev pub entry_at : ℕ → ℕ → ℕ → Entry
entry_at kind b i = record { kind = kind; batch = b; place = i; difference = pos 0 }

abbrev pub entry_by : ℕ → ℤ → Entry
entry_by kind d = record { kind = kind; batch = 0; place = 0; difference = d }

-- the entry, unless two are the same
unfoldable pub unless : Bool → Entry → List Entry
unless same e = cond same [] (e ∷ [])

-- ---- "batch by batch"

-- a batch with its operations
pub record Whole : Type 0 where
  pub batch : Record
  pub ops : List Op

unfoldable pub wholes_of : List Record → List Op → List Whole
wholes_of [] xs = []
wholes_of (r ∷ rs) xs = record { batch = r; ops = take (ninth r) xs } ∷ wholes_of rs (drop (ninth r) xs)

abbrev pub wholes : Block → List Whole
wholes b = wholes_of b.records b.ops

-- "whose opcode or value differs", if not
unfoldable pub same_op : Op → Op → Bool
same_op x y = eqb x.code y.code && eqb x.value y.value

-- the first place that both lists have and where they differ, in the b-th batch; their first elements are the i-th
unfoldable pub first_apart : {A : Type 0} → (A → A → Bool) → ℕ → ℕ → ℕ → List A → List A → List Entry
first_apart same kind b i [] ys = []
first_apart same kind b i (x ∷ xs) [] = []
first_apart same kind b i (x ∷ xs) (y ∷ ys) = cond (same x y) (first_apart same kind b (i + 1) xs ys) (entry_at kind b i ∷ [])

-- "the first group whose number differs, whose flag differs or whose length differs, each with its place, the first operation, at a place both have, whose
-- opcode or value differs, and a differing group count". All eight groups are looked at, also those from the count on.
unfoldable pub batch_apart : ℕ → Whole → Whole → List Entry
batch_apart b p q =
    first_apart eqb other_number₁ b 0 p.batch.numbers q.batch.numbers ++
    (first_apart eqb other_flag₂ b 0 p.batch.flags q.batch.flags ++
    (first_apart eqb other_length₃ b 0 (differences p.batch.starts) (differences q.batch.starts) ++
    (first_apart same_op other_operation₄ b 0 p.ops q.ops ++
    unless (eqb p.batch.count q.batch.count) (entry_at other_count₅ b 0))))

-- "In its turn, a batch that only one block has is reported as missing on the other side": the batches from the b-th on
unfoldable pub batches_apart : ℕ → List Whole → List Whole → List Entry
batches_apart b [] [] = []
batches_apart b [] (q ∷ qs) = entry_at missing₆ b 1 ∷ batches_apart (b + 1) [] qs
batches_apart b (p ∷ ps) [] = entry_at missing₆ b 2 ∷ batches_apart (b + 1) ps []
batches_apart b (p ∷ ps) (q ∷ qs) = batch_apart b p q ++ batches_apart (b + 1) ps qs

-- ---- "the difference is second minus first, negative where the second is smaller; 0 isn't reported"

unfoldable pub total_apart : ℕ → ℕ → ℕ → List Entry
total_apart kind m n = unless (eqb m n) (entry_by kind (sub_ℕ n m))

unfoldable pub totals_apart : Block → Block → List Entry
totals_apart a b =
    total_apart batches₇ (batch_total a) (batch_total b) ++
    (total_apart padded₈ (padded_total a) (padded_total b) ++
    (total_apart raw₉ (raw_total a) (raw_total b) ++
    total_apart paddings₁₀ (padding_total a) (padding_total b)))

-- "Report, in order: batch by batch ..; then for batches, padded operations, raw operations and paddings, the difference"
unfoldable pub blocks_apart : Block → Block → List Entry
blocks_apart a b = batches_apart 0 (wholes a) (wholes b) ++ totals_apart a b

-- ---- entries in a lent run of signed 32-bit numbers: four for each

abbrev pub entry_size : ℕ
entry_size = 4

unfoldable pub entry_numbers : Entry → List ℤ
entry_numbers e = pos e.kind ∷ pos e.batch ∷ pos e.place ∷ e.difference ∷ []
