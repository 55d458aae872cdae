-- What the replies say of the definitions' answers; and words for the contracts of private functions.
use Rattle.std.specs.Prelude.{◌≡◌, Bool, true, false, cond, List, ◌++◌, ℕ, zero, suc, ◌+◌, ◌-◌, length, drop, replicate, leb, eqb}
use Rattle.std.specs.Prelude as std
use Rattle.std.proofs.Math.Option.{Option, none, some}
use Rattle.std.proofs.lemmas.List.Edits.{sets}
use Rattle.rules.specs.Answer.{Answer, good, refused}
use Rattle.rules.specs.Record.{Record, Block, differences}
use Rattle.rules.specs.Lookups.{marks_of, raw_entries, padded_entries, raw_table, padded_table, Raw, raw_at, Padded, padded_at, largest}
use Rattle.rules.specs.Functions.{table_left}
use Rattle.refusal.specs.declared.Refusal.{Refusal}
use Rattle.refusal.specs.Told.{told}
use Rattle.prefix.specs.declared.PaddedIndex.{PaddedIndex}
use Rattle.prefix.specs.declared.RawIndex.{RawIndex}
use Rattle.prefix.specs.declared.Prefix.{Prefix}
use Rattle.prefix.specs.declared.Prefix.TheVariants.{RawToPadded, PaddedToRaw}
use Rattle.prefix.specs.declared.Filled.{Filled}

abbrev pub padded_found : Option Padded → std.Option PaddedIndex
padded_found none = std.None
padded_found (some (padded_at i)) = std.Some (record { 0 = i })

abbrev pub raw_found : Option Raw → std.Option RawIndex
raw_found none = std.None
raw_found (some (raw_at i)) = std.Some (record { 0 = i })

-- where an index leads, by its entry: the second half of `padded_index` and of `raw_index`
abbrev pub padded_by : ℕ → Raw → Option Padded
padded_by entry (raw_at i) = cond (leb (i + entry) largest) (some (padded_at (i + entry))) none

abbrev pub raw_by : ℕ → Padded → Option Raw
raw_by entry (padded_at i) = cond (leb entry i) (some (raw_at (i - entry))) none

-- a table's reply: how many entries it has
abbrev pub tabled_of : Answer (List ℕ) → Answer ℕ
tabled_of (good es) = good (length es)
tabled_of (refused n p) = refused n p

-- a reply, and what became of the lent run
pub record Answered (d : Answer (List ℕ)) (r : std.Result ℕ Refusal) (out out' : List ℕ) : Type 0 where
  pub reply : told r ≡ tabled_of d
  pub left : out' ≡ table_left out d

-- the tables by name
abbrev pub table_by : Prefix → Block → List ℕ
table_by RawToPadded = raw_table
table_by PaddedToRaw = padded_table

-- ---- for private functions

abbrev pub table_from : Prefix → ℕ → List Bool → List ℕ
table_from RawToPadded = raw_entries
table_from PaddedToRaw = padded_entries

-- the paddings of a group, and its entries
abbrev pub pads_in : ℕ → ℕ → ℕ
pads_in zero f = 0
pads_in (suc n) f = cond (eqb f 1) 1 0

abbrev pub kept_in : Prefix → ℕ → ℕ → ℕ
kept_in RawToPadded n p = n - p
kept_in PaddedToRaw n p = n

-- the marks of a batch from its g-th group on
unfoldable pub marks_at : Record → ℕ → List Bool
marks_at r g = marks_of (differences (drop g r.starts)) (drop g r.flags)

-- what is still to be written: w entries of the value k, which wait, and those for the marks that come
abbrev pub ahead : Prefix → ℕ → ℕ → List Bool → List ℕ
ahead which w k ms = replicate w k ++ table_from which k ms

-- The entries for these marks were written or wait: whatever marks come after them, to go on from the state reached gives what going on from the one before gives.
pub record Goes (which : Prefix) (ms : List Bool) (c d : Filled) (out out' : List ℕ) : Type 0 where
  pub run : (rest : List Bool) → sets out' d.entries (ahead which d.waiting d.paddings rest) ≡ sets out c.entries (ahead which c.waiting c.paddings (ms ++ rest))
  pub entries : (rest : List Bool) → d.entries + length (ahead which d.waiting d.paddings rest) ≡ c.entries + length (ahead which c.waiting c.paddings (ms ++ rest))

-- a table was written to the front of a run, as far as it goes, and its entries counted
pub record Filling (table : List ℕ) (n : ℕ) (out out' : List ℕ) : Type 0 where
  pub entries : n ≡ length table
  pub run : out' ≡ sets out 0 table
