-- An entry of the report by its four numbers, and what reading them answers.
use Rattle.std.specs.Prelude.{◌≡◌, List, ℕ, ℤ, Result, MatchResult}
use Rattle.rules.specs.Compare as rule
use Rattle.rules.specs.Compare.{other_number₁, other_flag₂, other_length₃, other_operation₄, other_count₅, missing₆, batches₇, padded₈, raw₉, paddings₁₀, entry_numbers}
use Rattle.comparison.specs.declared.entry.Kind.{Kind}
use Rattle.comparison.specs.declared.entry.Kind.TheVariants as kind
use Rattle.comparison.specs.declared.entry.Side.{Side}
use Rattle.comparison.specs.declared.entry.Side.TheVariants as side
use Rattle.comparison.specs.declared.entry.Entry.{Entry}

abbrev pub number_of : Kind → ℕ
number_of kind.Number = other_number₁
number_of kind.Flag = other_flag₂
number_of kind.Length = other_length₃
number_of kind.Operation = other_operation₄
number_of kind.Count = other_count₅
number_of kind.Missing = missing₆
number_of kind.Batches = batches₇
number_of kind.Padded = padded₈
number_of kind.Raw = raw₉
number_of kind.Paddings = paddings₁₀

abbrev pub side_number : Side → ℕ
side_number side.First = 1
side_number side.Second = 2

-- the definitions' entry
abbrev pub entry_of : Entry → rule.Entry
entry_of e = record { kind = number_of e.kind; batch = e.batch; place = e.place; difference = e.difference }

abbrev pub four_numbers : Entry → List ℤ
four_numbers e = entry_numbers (entry_of e)

-- the one that has these numbers; an error where none has them
abbrev pub Reads : {A N E : Type 0} → (A → N) → N → Result A E → Type 0
Reads {A} numbers n r = MatchResult r (λ x. numbers x ≡ n) (λ e. (x : A) → numbers x ≡ n → ⊥)
