-- No public contract cites this page: the batch in hand as numbers, and what becomes of them.
use Rattle.std.specs.Prelude.{Bool, cond, ℕ, zero, suc, ◌+◌, ◌-◌, ◌*◌, ◌^◌, ◌<◌}
use Rattle.rules.specs.Batching.{target}
use Rattle.accumulator.specs.declared.OpBatchAccumulator.{OpBatchAccumulator}
use Rattle.accumulator.specs.Good.{Good}
use Rattle.accumulator.specs.Model.{new_acc, pad_of, turned_acc, slotted_acc, joined_acc, crosses}
use Rattle.strict.specs.declared.Shape.{Shape}

-- the current group and what the batch has, and the sizes and flags of its closed groups
pub record Draft : Type 0 where
  pub acc : OpBatchAccumulator
  pub sizes : ℕ
  pub flags : ℕ

abbrev pub shape_of : Draft → Shape
shape_of d = record { sizes = d.sizes; flags = d.flags }

abbrev pub new_draft : Draft
new_draft = record { acc = new_acc; sizes = 0; flags = 0 }

unfoldable pub closed_draft : Draft → Draft
closed_draft d =
    record {
      acc = turned_acc d.acc;
      sizes = d.sizes + (d.acc.inside + pad_of d.acc) * 256 ^ d.acc.cur;
      flags = d.flags + pad_of d.acc * 256 ^ d.acc.cur;
    }

-- k groups closed and opened
unfoldable pub closed_times : ℕ → Draft → Draft
closed_times zero d = d
closed_times (suc k) d = closed_times k (closed_draft d)

unfoldable pub ended_draft : Draft → Draft
ended_draft d = closed_draft (closed_times (target d.acc.next - d.acc.next) d)

unfoldable pub ready_draft : Bool → Draft → Draft
ready_draft imm d = cond (crosses imm d.acc) (closed_draft d) d

-- an operation joins the current group
unfoldable pub joined_draft : ℕ → Bool → Draft → Draft
joined_draft c imm d = record { acc = joined_acc c imm (cond imm (slotted_acc d.acc) d.acc); sizes = d.sizes; flags = d.flags }

abbrev pub added_draft : ℕ → Bool → Draft → Draft
added_draft c imm d = joined_draft c imm (ready_draft imm d)

-- what every draft keeps: its sizes and flags are those of groups before the current one
pub record Fine (w : ℕ) (d : Draft) : Type 0 where
  pub good : Good w d.acc
  pub sizes : d.sizes < 256 ^ d.acc.cur
  pub flags : d.flags < 256 ^ d.acc.cur
