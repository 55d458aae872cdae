-- Document 01, "Lookups and tables".
use Rattle.std.specs.Prelude.{Bool, true, false, cond, ◌&&◌, List, [], ◌∷◌, ◌++◌, ℕ, zero, suc, ◌+◌, ◌-◌, length, get_or, take, replicate, leb, ltb, eqb}
use Rattle.std.proofs.Math.Option.{Option, none, some}
use Rattle.rules.specs.Record.{Record, Block, differences}

-- ---- lookups in one batch

-- a group, and an operation's place in it
pub record Place : Type 0 where
  pub group : ℕ
  pub place : ℕ

-- "An operation number in a batch gives its group, the first whose end is greater, and its place there; none if past the end", for the starts from group g on
unfoldable pub group_from : ℕ → List ℕ → ℕ → Option Place
group_from g [] i = none
group_from g (a ∷ []) i = none
group_from g (a ∷ b ∷ s) i = cond (ltb i b) (some (record { group = g; place = i - a })) (group_from (g + 1) (b ∷ s) i)

unfoldable pub group_of : Record → ℕ → Option Place
group_of r i = group_from 0 r.starts i

-- "Next operation group after g: the first non-empty one over g and under the count, or none": of groups of these sizes, the first of them the k-th
unfoldable pub next_from : ℕ → List ℕ → ℕ → Option ℕ
next_from k [] g = none
next_from k (n ∷ ns) g = cond (ltb g k && ltb 0 n) (some k) (next_from (k + 1) ns g)

unfoldable pub next_group : Record → ℕ → Option ℕ
next_group r g = next_from 0 (take r.count (differences r.starts)) g

-- ---- the tables

-- for each operation of a group of n, whether it is a flagged padding: the last of a flagged group is one
unfoldable pub marks_in : ℕ → ℕ → List Bool
marks_in zero f = []
marks_in (suc n) f = replicate n false ++ (eqb f 1 ∷ [])

unfoldable pub marks_of : List ℕ → List ℕ → List Bool
marks_of [] fs = []
marks_of (n ∷ ns) [] = []
marks_of (n ∷ ns) (f ∷ fs) = marks_in n f ++ marks_of ns fs

-- for each padded operation of a block, whether it is a flagged padding. M-100, of a flag at or above the count: "the tables go on ignoring it"; there
-- are no operations there.
unfoldable pub marks : List Record → List Bool
marks [] = []
marks (r ∷ rs) = marks_of (differences r.starts) r.flags ++ marks rs

-- "Raw table: for each raw operation, flagged paddings before it, then one last entry with all", where k paddings came before
unfoldable pub raw_entries : ℕ → List Bool → List ℕ
raw_entries k [] = k ∷ []
raw_entries k (true ∷ ms) = raw_entries (k + 1) ms
raw_entries k (false ∷ ms) = k ∷ raw_entries k ms

-- "Padded table: the same for each padded operation, then the total"
unfoldable pub padded_entries : ℕ → List Bool → List ℕ
padded_entries k [] = k ∷ []
padded_entries k (true ∷ ms) = k ∷ padded_entries (k + 1) ms
padded_entries k (false ∷ ms) = k ∷ padded_entries k ms

unfoldable pub raw_table : Block → List ℕ
raw_table b = raw_entries 0 (marks b.records)

unfoldable pub padded_table : Block → List ℕ
padded_table b = padded_entries 0 (marks b.records)

-- ---- index lookups

-- "A raw index and a padded index are different kinds of number and must not be mixed."
pub data Raw : Type 0 where
  raw_at : ℕ → Raw

pub data Padded : Type 0 where
  padded_at : ℕ → Padded

-- the largest index
abbrev pub largest : ℕ
largest = 18446744073709551615

-- "Padded index = raw index + entry"; "An index past the last entry gives none; so does .. a sum over the largest index"
unfoldable pub padded_index : List ℕ → Raw → Option Padded
padded_index table (raw_at i) = cond (ltb i (length table) && leb (i + get_or table i 0) largest) (some (padded_at (i + get_or table i 0))) none

-- "raw index = padded index - entry"; "An index past the last entry gives none; so does an entry greater than the padded index"
unfoldable pub raw_index : List ℕ → Padded → Option Raw
raw_index table (padded_at i) = cond (ltb i (length table) && leb (get_or table i 0) i) (some (raw_at (i - get_or table i 0))) none
