-- What the two tables are for, as statements about the definitions: proved in proofs/Claims.antt.
use Rattle.std.specs.Prelude.{◌≡◌, Ok, Bool, true, false, List, [], ◌∷◌, ℕ, zero, suc, ◌≤◌, ◌<◌, length, get_or, take}
use Rattle.std.proofs.Math.Option.{none, some}
use Rattle.rules.specs.Answer.{good}
use Rattle.rules.specs.Record.{Block}
use Rattle.rules.specs.Lookups.{marks, raw_table, padded_table, raw_at, padded_at, largest, padded_index, raw_index}
use Rattle.rules.specs.Functions.{Arena, block_in, structure_checked, raw_tabled, padded_tabled}
use Rattle.prefix.specs.Tables.{Answered}

-- how many operations are raw, that is no flagged paddings
unfoldable pub raws : List Bool → ℕ
raws [] = 0
raws (true ∷ ms) = raws ms
raws (false ∷ ms) = suc (raws ms)

-- the padded place of the i-th raw operation
unfoldable pub place_of : ℕ → List Bool → ℕ
place_of i [] = 0
place_of i (true ∷ ms) = suc (place_of i ms)
place_of zero (false ∷ ms) = 0
place_of (suc i) (false ∷ ms) = suc (place_of i ms)

-- the raw operations under i stand before a padded place, and those from i on after it: i is the next raw operation's number, or the raw total
pub record NextRaw (ms : List Bool) (p i : ℕ) : Type 0 where
  pub before : (j : ℕ) → j < i → place_of j ms < p
  pub after : (j : ℕ) → i ≤ j → j < raws ms → p < place_of j ms
  pub counted : i ≤ raws ms

-- what two tables do for a block: the raw table's entry leads each raw operation to its padded place, and the padded table's leads it back
pub record Leads (b : Block) (rawOnes paddedOnes : List ℕ) : Type 0 where
  pub there : (i : ℕ) → i < raws (marks b.records) → padded_index rawOnes (raw_at i) ≡ some (padded_at (place_of i (marks b.records)))
  pub back : (i : ℕ) → i < raws (marks b.records) → raw_index paddedOnes (padded_at (place_of i (marks b.records))) ≡ some (raw_at i)
  -- "A padding's raw index is the next raw operation's, or the raw total."
  pub padding : (p : ℕ) → p < length (marks b.records) → get_or (marks b.records) p false ≡ true
      → (i : ℕ) × ((raw_index paddedOnes (padded_at p) ≡ some (raw_at i)) × NextRaw (marks b.records) p i)
  -- the last entries lead from total to total
  pub ends : (padded_index rawOnes (raw_at (raws (marks b.records))) ≡ some (padded_at (length (marks b.records))))
      × (raw_index paddedOnes (padded_at (length (marks b.records))) ≡ some (raw_at (raws (marks b.records))))
  -- "An index past the last entry gives none"
  pub past : (i : ℕ) → (raws (marks b.records) < i → padded_index rawOnes (raw_at i) ≡ none) × (length (marks b.records) < i → raw_index paddedOnes (padded_at i) ≡ none)

-- of a block whose operations can be counted by an index
abbrev pub TablesLead : Type 0
TablesLead = (b : Block) → length (marks b.records) ≤ largest → Leads b (raw_table b) (padded_table b)

-- and every block that passes the structure check is one: each of its operations has a mark
abbrev pub AllMarked : Type 0
AllMarked = (w : ℕ) → w ≤ 8 → (a : Arena) → structure_checked w a ≡ good tt → length (marks (block_in a).records) ≡ length a.codes

-- From contract to contract: of the two functions nothing is known but what they ensure, `Answered`. What they left in the lent runs, cut at the entries
-- that they replied, leads there and back.
abbrev pub TablesLeft : Type 0
TablesLeft = (a : Arena) (rawRun rawRun' paddedRun paddedRun' : List ℕ) (n m : ℕ)
    → Answered (raw_tabled 8 a (length rawRun)) (Ok n) rawRun rawRun' → Answered (padded_tabled 8 a (length paddedRun)) (Ok m) paddedRun paddedRun'
    → Leads (block_in a) (take n rawRun') (take m paddedRun')
