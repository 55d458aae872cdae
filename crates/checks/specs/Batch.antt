-- What the checks' walks are asked of an arena and of one batch of it: cited by the contracts of inner functions only. No walk asks which width the
-- structure test had, only that a record has room for it.
use Rattle.std.specs.Prelude.{◌≡◌, true, ℕ, ◌+◌, ◌-◌, ◌*◌, ◌/◌, ◌≤◌, ◌<◌, List, length, get_or, take, drop}
use Rattle.rules.specs.Answer.{good}
use Rattle.rules.specs.Operations.{Op, operations}
use Rattle.rules.specs.Record.{Record, record_size, record_at, differences, cut, part}
use Rattle.rules.specs.Checks.{Held, ninth, record_right}
use Rattle.rules.specs.Functions.{Arena, structure_checked}

-- the b-th batch with its groups, where its operations begin at a place
abbrev pub held_at : Arena → ℕ → ℕ → Held
held_at a b from =
    record {
      batch = record_at a.records b;
      groups = cut (differences (record_at a.records b).starts) (operations a.codes a.values) from;
    }

-- a record that passes the structure test at some width
pub record Fits (r : Record) : Type 0 where
  pub width : ℕ
  pub room : width ≤ 8
  pub right : record_right width r ≡ true

-- every record of a run does
abbrev pub AllFit : List ℕ → Type 0
AllFit s = (b : ℕ) → b < length s / record_size → Fits (record_at s b)

-- the arena passed the structure check at some width
pub record Structured (a : Arena) : Type 0 where
  pub width : ℕ
  pub room : width ≤ 8
  pub passed : structure_checked width a ≡ good tt

-- the arena has that record, it passes the structure test, and its operations are there
pub record Lies (a : Arena) (b from : ℕ) : Type 0 where
  pub equal : length a.codes ≡ length a.values
  pub whole : record_size * b + record_size ≤ length a.records
  pub fits : Fits (record_at a.records b)
  pub inside : from + ninth (record_at a.records b) ≤ length a.codes

-- a table of 128 kinds, and opcodes that have one
pub record Apt (t cs : List ℕ) : Type 0 where
  pub table : length t ≡ 128
  pub codes : (i : ℕ) → i < length cs → get_or cs i 0 < 128

-- ---- the groups of a batch from the g-th on, and those of them under the count

unfoldable pub groups_from : Record → List Op → ℕ → ℕ → List (List Op)
groups_from r xs from g = cut (differences (drop g r.starts)) xs (from + get_or r.starts g 0)

abbrev pub under : Record → List Op → ℕ → ℕ → List (List Op)
under r xs from g = take (r.count - g) (groups_from r xs from g)

-- the operations from one index up to another
abbrev pub span : List Op → ℕ → ℕ → List Op
span xs from to = part (to - from) xs from
