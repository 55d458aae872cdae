-- No public contract cites this page: what the walk does to its numbers, between the code and the rules. `w` is the width; s is a run of k records.
use Rattle.std.specs.Prelude.{◌≡◌, Bool, true, cond, ◌&&◌, ◌||◌, List, [], ◌∷◌, map, ℕ, ◌+◌, ◌*◌, ◌^◌, ◌<◌, length, get_or, take, drop, ltb, eqb, Result, Ok, Err}
use Rattle.rules.specs.Lists.{total}
use Rattle.rules.specs.Digits.{number}
use Rattle.rules.specs.Answer.{Answer, good, refused, refuse}
use Rattle.rules.specs.Refusals.{unfinished₁₈}
use Rattle.rules.specs.Record.{record_size, record_at, records_from, differences}
use Rattle.rules.specs.Checks.{ninth, record_right}
use Rattle.rules.specs.Lookups.{marks}
use Rattle.rules.specs.Strict.{unmarked}
use Rattle.refusal.specs.declared.Refusal.{Refusal}
use Rattle.refusal.specs.declared.Refusal.TheVariants.{Unfinished}
use Rattle.refusal.specs.Told.{number_of, place_of}
use Rattle.checks.specs.Batch.{Apt}
use Rattle.accumulator.specs.Model.{fits_in}
use Rattle.strict.specs.declared.Work.{Work}
use Rattle.strict.specs.declared.Shape.{Shape}
use Rattle.strict.specs.Draft.{shape_of, new_draft, ended_draft, added_draft}

-- a run of k records, each of which passes the structure test
pub record Runs (s : List ℕ) (k : ℕ) : Type 0 where
  pub whole : length s ≡ record_size * k
  pub right : (b : ℕ) → b < k → record_right 8 (record_at s b) ≡ true

-- ---- batch by batch

-- what the b-th record says
abbrev pub shape_at : List ℕ → ℕ → Shape
shape_at s b = record { sizes = number 256 (differences (record_at s b).starts); flags = number 256 (record_at s b).flags }

-- whether the b-th record has this shape
unfoldable pub is_record : List ℕ → ℕ → ℕ → Shape → Bool
is_record s k b x = ltb b k && (eqb (shape_at s b).sizes x.sizes && eqb (shape_at s b).flags x.flags)

-- a batch that has ended is held against the record after those that were the same, unless one was not
abbrev pub held : List ℕ → ℕ → Shape → Result ℕ Refusal → Result ℕ Refusal
held s k x (Ok b) = cond (is_record s k b x) (Ok (b + 1)) (Err (Unfinished b))
held s k x (Err e) = Err e

unfoldable pub ended_work : List ℕ → ℕ → Work → Work
ended_work s k e = record { draft = new_draft; same = held s k (shape_of (ended_draft e.draft)) e.same; raw = e.raw }

unfoldable pub room_work : ℕ → Bool → List ℕ → ℕ → Work → Work
room_work w imm s k e = cond (fits_in w imm e.draft.acc) e (ended_work s k e)

unfoldable pub stepped_work : ℕ → ℕ → Bool → List ℕ → ℕ → Work → Work
stepped_work w c imm s k e =
    let r = room_work w imm s k e in
    record { draft = added_draft c imm r.draft; same = r.same; raw = r.raw + 1 }

-- operations added one after the other, by their opcodes
unfoldable pub fed : ℕ → List ℕ → List ℕ → ℕ → List ℕ → Work → Work
fed w t s k [] e = e
fed w t s k (c ∷ cs) e = fed w t s k cs (stepped_work w c (eqb (get_or t c 0) 1) s k e)

abbrev pub new_work : Work
new_work = record { draft = new_draft; same = Ok 0; raw = 0 }

-- so many operations from a place on
abbrev pub codes_part : ℕ → List ℕ → ℕ → List ℕ
codes_part n cs at = take n (drop at cs)

-- the answer, once all operations are added: of the list's length, and then of the batches
abbrev pub batches_judged : ℕ → Result ℕ Refusal → Answer Unit → Answer Unit
batches_judged k (Ok b) r = refuse (ltb b k) unfinished₁₈ b r
batches_judged k (Err e) r = refused (number_of e) (place_of e)

unfoldable pub judged : List ℕ → ℕ → Work → Answer Unit → Answer Unit
judged s k e r = refuse (eqb e.raw 0 || ltb 16384 e.raw) unfinished₁₈ 0 (batches_judged k (ended_work s k e).same r)

-- what the walk asks of opcodes and k records that lie in two runs: the table has a kind for each opcode, and the records' operations are these
pub record Judged (t cs s : List ℕ) (k : ℕ) : Type 0 where
  pub runs : Runs s k
  pub apt : Apt t cs
  pub few : length cs < 2 ^ 20
  pub sum : total (map ninth (records_from k s 0)) ≡ length cs

-- of opcodes and k records that lie in two runs: the answer of the walk over all of them
unfoldable pub verdict_in : ℕ → List ℕ → List ℕ → List ℕ → ℕ → Answer Unit
verdict_in w t cs s k = judged s k (fed w t s k (unmarked (marks (records_from k s 0)) cs) new_work) (good tt)
