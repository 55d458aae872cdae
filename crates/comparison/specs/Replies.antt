-- What compare answers and leaves in the lent runs, said of the definitions' answer.
use Rattle.std.specs.Prelude.{◌≡◌, List, ℕ, ◌/◌, ℤ, length, Result, Ok, Err}
use Rattle.rules.specs.Record.{no_block}
use Rattle.rules.specs.Compare.{entry_size}
use Rattle.rules.specs.Functions as rule
use Rattle.rules.specs.Functions.{Arena, Side, room_in, filled, reported, refused_by, report_left}
use Rattle.refusal.specs.declared.Refusal.{Refusal}
use Rattle.refusal.specs.declared.Refusal.TheVariants.{NoRoom}
use Rattle.refusal.specs.Told.{number_of, place_of}
use Rattle.comparison.specs.declared.Refused.{Refused}
use Rattle.comparison.specs.declared.Refused.TheVariants.{First, Second, Report}

-- a refusal's mark, number and place
pub record Marked : Type 0 where
  pub mark : ℕ
  pub number : ℕ
  pub place : ℕ

abbrev pub mark_of : Refused → ℕ
mark_of (First r) = 1
mark_of (Second r) = 2
mark_of Report = 0

abbrev pub refusal_of : Refused → Refusal
refusal_of (First r) = r
refusal_of (Second r) = r
refusal_of Report = NoRoom

-- what a reply tells: how many entries, or a refusal
abbrev pub told : Result ℕ Refused → Result ℕ Marked
told (Ok n) = Ok n
told (Err e) = Err (record { mark = mark_of e; number = number_of (refusal_of e); place = place_of (refusal_of e) })

abbrev pub compared_of : rule.Compared → Result ℕ Marked
compared_of (reported es) = Ok (length es)
compared_of (refused_by m n p) = Err (record { mark = m; number = n; place = p })

-- a block's side: its table, bytes and offset, and the room that is lent for it
abbrev pub side : List ℕ → List ℕ → ℕ → Arena → Side
side t s at a = record { table = t; bytes = s; at = at; room = room_in a }

-- a lent report has room for so many whole entries
abbrev pub room_for : List ℤ → ℕ
room_for out = length out / entry_size

-- the reply, and what is left in the report
pub record Reports (answer : rule.Compared) (before after : List ℤ) (r : Result ℕ Refused) : Type 0 where
  pub reply : told r ≡ compared_of answer
  pub report : after ≡ report_left (length before) answer

-- and both working rooms end zeroed, whatever the answer is
pub record Compares (answer : rule.Compared) (a a' c c' : Arena) (before after : List ℤ) (r : Result ℕ Refused) : Type 0 where
  pub reports : Reports answer before after r
  pub first : a' ≡ filled a no_block
  pub second : c' ≡ filled c no_block
