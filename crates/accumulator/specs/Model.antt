-- What the methods do to the accumulator's numbers and to the lent records, between the code and the rules. No face's contract cites this page.
-- `w` is the width.
use Rattle.std.specs.Prelude.{Bool, true, false, cond, List, ℕ, zero, suc, ◌+◌, ◌-◌, ◌*◌, leb, ltb, eqb}
use Rattle.rules.specs.Batching.{target}
use Rattle.op_batch.specs.Stores.{starts_set, flag_set, number_set, count_set}
use Rattle.accumulator.specs.declared.OpBatchAccumulator.{OpBatchAccumulator}

abbrev pub new_acc : OpBatchAccumulator
new_acc = record { cur = 0; next = 1; inside = 0; number = 0; unit = 1; total = 0; tail = false }

abbrev pub fits_in : ℕ → Bool → OpBatchAccumulator → Bool
fits_in w imm a = cond imm (cond (ltb a.inside 8) (ltb a.next w) (ltb (a.next + 1) w)) (cond (ltb a.inside 9) true (ltb a.next w))

abbrev pub pads : OpBatchAccumulator → Bool
pads a = cond (eqb a.inside 0) true a.tail

abbrev pub pad_of : OpBatchAccumulator → ℕ
pad_of a = cond (pads a) 1 0

-- the current group closed in the b-th record: later starts, its flag, its number
unfoldable pub closed_run : ℕ → OpBatchAccumulator → List ℕ → List ℕ
closed_run b a xs = number_set b a.cur a.number (flag_set b a.cur (pad_of a) (starts_set b (a.cur + 1) (a.total + pad_of a) xs))

-- and the group at next free opened, where the batch has n operations
abbrev pub opened_acc : ℕ → OpBatchAccumulator → OpBatchAccumulator
opened_acc n a = record { cur = a.next; next = a.next + 1; inside = 0; number = 0; unit = 1; total = n; tail = false }

unfoldable pub turned_acc : OpBatchAccumulator → OpBatchAccumulator
turned_acc a = opened_acc (a.total + pad_of a) a

-- an immediate takes next free
unfoldable pub slotted_acc : OpBatchAccumulator → OpBatchAccumulator
slotted_acc a = record { cur = a.cur; next = a.next + 1; inside = a.inside; number = a.number; unit = a.unit; total = a.total; tail = a.tail }

unfoldable pub slotted_run : ℕ → ℕ → OpBatchAccumulator → List ℕ → List ℕ
slotted_run v b a xs = number_set b a.next v xs

unfoldable pub joined_acc : ℕ → Bool → OpBatchAccumulator → OpBatchAccumulator
joined_acc c imm a =
    record { cur = a.cur; next = a.next; inside = a.inside + 1; number = a.number + c * a.unit; unit = a.unit * 128; total = a.total + 1; tail = imm }

abbrev pub crosses : Bool → OpBatchAccumulator → Bool
crosses imm a = leb (cond imm 8 9) a.inside

unfoldable pub ready_acc : Bool → OpBatchAccumulator → OpBatchAccumulator
ready_acc imm a = cond (crosses imm a) (turned_acc a) a

unfoldable pub ready_run : Bool → ℕ → OpBatchAccumulator → List ℕ → List ℕ
ready_run imm b a xs = cond (crosses imm a) (closed_run b a xs) xs

unfoldable pub added_acc : ℕ → Bool → OpBatchAccumulator → OpBatchAccumulator
added_acc c imm a = joined_acc c imm (cond imm (slotted_acc (ready_acc imm a)) (ready_acc imm a))

unfoldable pub added_run : Bool → ℕ → ℕ → OpBatchAccumulator → List ℕ → List ℕ
added_run imm v b a xs = cond imm (slotted_run v b (ready_acc imm a) (ready_run imm b a xs)) (ready_run imm b a xs)

-- k groups closed and opened
unfoldable pub filled_acc : ℕ → OpBatchAccumulator → OpBatchAccumulator
filled_acc zero a = a
filled_acc (suc k) a = filled_acc k (turned_acc a)

unfoldable pub filled_run : ℕ → ℕ → OpBatchAccumulator → List ℕ → List ℕ
filled_run zero b a xs = xs
filled_run (suc k) b a xs = filled_run k b (turned_acc a) (closed_run b a xs)

unfoldable pub last_acc : OpBatchAccumulator → OpBatchAccumulator
last_acc a = filled_acc (target a.next - a.next) a

unfoldable pub ended_total : OpBatchAccumulator → ℕ
ended_total a = (last_acc a).total + pad_of (last_acc a)

unfoldable pub ended_run : ℕ → OpBatchAccumulator → List ℕ → List ℕ
ended_run b a xs = count_set b (target a.next) (closed_run b (last_acc a) (filled_run (target a.next - a.next) b a xs))
