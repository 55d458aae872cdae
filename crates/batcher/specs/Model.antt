-- No public contract cites this page: what the driver does to its numbers and to the lent records, between the code and the rules. `w` is the width.
use Rattle.std.specs.Prelude.{◌≡◌, Bool, cond, List, ℕ, ◌+◌, ◌-◌, ◌≤◌, ◌<◌, get_or, ltb, eqb}
use Rattle.rules.specs.Operations.{op_fault}
use Rattle.operation.specs.Verdict.{op}
use Rattle.op_batch.specs.Stores.{number_set}
use Rattle.accumulator.specs.Good.{record_groups}
use Rattle.accumulator.specs.Model.{new_acc, fits_in, added_acc, added_run, ended_total, ended_run}
use Rattle.batcher.specs.declared.Work.{Work}

unfoldable pub ended_work : Work → Work
ended_work s = record { acc = new_acc; base = s.base + ended_total s.acc; batches = s.batches + 1 }

unfoldable pub ended_work_run : Work → List ℕ → List ℕ
ended_work_run s xs = ended_run s.batches s.acc xs

unfoldable pub room_work : ℕ → Bool → Work → Work
room_work w imm s = cond (fits_in w imm s.acc) s (ended_work s)

unfoldable pub room_run : ℕ → Bool → Work → List ℕ → List ℕ
room_run w imm s xs = cond (fits_in w imm s.acc) xs (ended_work_run s xs)

unfoldable pub stepped_work : ℕ → ℕ → Bool → Work → Work
stepped_work w c imm s = record { acc = added_acc c imm (room_work w imm s).acc; base = (room_work w imm s).base; batches = (room_work w imm s).batches }

unfoldable pub stepped_run : ℕ → Bool → ℕ → Work → List ℕ → List ℕ
stepped_run w imm v s xs = added_run imm v (room_work w imm s).batches (room_work w imm s).acc (room_run w imm s xs)

-- where the last operation stands
abbrev pub last_place : Work → ℕ
last_place s = s.base + s.acc.total - 1

-- ---- operations that join the current group as it is, one after the other

-- where a value is kept: in the next free slot, if the record has one more
unfoldable pub kept_run : ℕ → ℕ → ℕ → List ℕ → List ℕ
kept_run v b next xs = cond (ltb next record_groups) (number_set b next v xs) xs

-- whether the last of n operations from the i-th on has an immediate; of none, what was so before
abbrev pub last_imm : List ℕ → List ℕ → Bool → ℕ → ℕ → Bool
last_imm t cs before i n = cond (eqb n 0) before (eqb (get_or t (get_or cs (i + n - 1) 0) 0) 1)

-- the work once n operations have joined from the i-th on
abbrev pub taken_work : List ℕ → List ℕ → Work → ℕ → ℕ → ℕ → ℕ → ℕ → Work
taken_work t cs s i n next number unit =
    record {
      acc = record { cur = s.acc.cur; next = next; inside = s.acc.inside + n; number = number; unit = unit; total = s.acc.total + n; tail = last_imm t cs s.acc.tail i n };
      base = s.base;
      batches = s.batches;
    }

-- An operation joins as it is, and its immediate takes k slots, 0 or 1. `left` is how many may still join.
pub record Joins (w : ℕ) (t : List ℕ) (c v next left k : ℕ) : Type 0 where
  pub kind : get_or t c 0 ≡ k
  pub fine : op_fault t (op c v) ≡ 0
  pub slot : next + k ≤ w
  pub here : k < left
