-- What every accumulator keeps. `w` is what next free is held to: the width, or the groups that a record has. No face's contract cites it.
use Rattle.std.specs.Prelude.{◌≡◌, true, ℕ, ◌+◌, ◌*◌, ◌^◌, ◌≤◌, ◌<◌}
use Rattle.accumulator.specs.declared.OpBatchAccumulator.{OpBatchAccumulator}

-- a record has room for eight groups, whatever the width
abbrev pub record_groups : ℕ
record_groups = 8

pub record Good (w : ℕ) (a : OpBatchAccumulator) : Type 0 where
  pub low : a.cur < a.next
  pub high : a.next ≤ w
  pub few : a.inside ≤ 9
  pub imm : a.tail ≡ true → a.inside ≤ 8
  pub sum : a.total ≤ 9 * a.cur + a.inside
  pub small : a.number < 128 ^ a.inside
  pub power : a.unit ≡ 128 ^ a.inside
