use Prim.Native.Nat.{◌-◌, ◌*◌, ◌≤◌}
use Rattle.comparison.specs.Model.{common_from}
use Rattle.comparison.specs.Block.{lying}
use Rattle.comparison.proofs.Entries.{Ahead}
use Rattle.comparison.proofs.Blocks.{Along}
use Rattle.comparison.proofs.Report.batches.Given as goal

abbrev pub invariant-loop-b : goal.invariant-loop-b
invariant-loop-b l =
    Along l.first.codes.now l.first.values.now l.first.records.now l.k l.b l.from
    × Along l.second.codes.now l.second.values.now l.second.records.now l.k l.b l.at
    × (l.self.entries ≤ 5 * l.b)
    × Ahead (common_from (l.k - l.b) (lying l.first) l.from (lying l.second) l.at l.b) l.self (common_from l.k (lying l.first) 0 (lying l.second) 0 0) l.initial.self
