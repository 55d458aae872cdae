use mathlib.Core.Path.{◌≡◌}
use mathlib.Core.List.{map}
use Prim.Native.Nat.{◌+◌, ◌-◌, ◌≤◌}
use lib.ListN.{length}
use Rattle.rules.specs.Lists.{total}
use Rattle.rules.specs.Record.{records_from}
use Rattle.rules.specs.Checks.{ninth}
use Rattle.strict.specs.Model.{new_work}
use Rattle.strict.specs.Walk.{batches_in, fed_in}
use Rattle.strict.proofs.Batches.{behind}
use Rattle.strict.proofs.Walk.add_batches.Given as goal

abbrev pub invariant-loop-b : goal.invariant-loop-b
invariant-loop-b l =
    (l.at + total (map ninth (records_from (batches_in l.self - l.b) l.self.records.now l.b)) ≡ length l.self.codes.now)
    × (l.w.raw ≤ l.at)
    × (fed_in l.self (behind l.self.records.now (batches_in l.self) l.self.codes.now l.b l.at) l.w ≡ fed_in l.self (behind l.self.records.now (batches_in l.self) l.self.codes.now 0 0) new_work)
