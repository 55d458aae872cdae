-- The group lookup is the only answer that fits the starts, as a statement about the definitions: proved in proofs/Claims.antt.
use Rattle.std.specs.Prelude.{◌≡◌, ℕ, ◌+◌, ◌<◌, ◌≤◌, true, length, slice_index, slice_index_or}
use Rattle.std.proofs.Math.Option.{none, some}
use Rattle.rules.specs.Record.{Record}
use Rattle.rules.specs.Checks.{ninth, record_right}
use Rattle.rules.specs.Lookups.{Place, group_of}

-- operation i of the batch lies in that group, at that place
pub record Fits (r : Record) (i : ℕ) (p : Place) : Type 0 where
  pub group : p.group < 8
  pub place : slice_index_or r.starts p.group 0 + p.place ≡ i
  pub inside : i < slice_index r.starts (p.group + 1)

pub record OnlyGroup (r : Record) (i : ℕ) : Type 0 where
  pub fits : (p : Place) → group_of r i ≡ some p → Fits r i p
  pub only : (p : Place) → Fits r i p → group_of r i ≡ some p
  pub past : ninth r ≤ i → group_of r i ≡ none
  pub found : i < ninth r → (p : Place) × (group_of r i ≡ some p)

abbrev pub GroupLookups : Type 0
GroupLookups = (w : ℕ) (r : Record) (i : ℕ) → length r.starts ≡ 9 → record_right w r ≡ true → OnlyGroup r i
