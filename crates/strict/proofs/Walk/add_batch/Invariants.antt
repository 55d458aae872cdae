use mathlib.Core.Path.{◌≡◌}
use Prim.Native.Nat.{◌+◌, ◌≤◌}
use lib.ListN.{get_or, drop}
use Rattle.rules.specs.Digits.{number}
use Rattle.rules.specs.Record.{record_at}
use Rattle.strict.specs.Walk.{fed_in}
use Rattle.strict.proofs.Batches.{ahead}
use Rattle.strict.proofs.Walk.add_batch.Given as goal

abbrev pub invariant-loop-g : goal.invariant-loop-g
invariant-loop-g l =
    (l.from ≤ l.at + get_or (record_at l.self.records.now l.b).starts l.g 0)
    × (l.w.raw ≤ l.from)
    × (l.left ≡ number 256 (drop l.g (record_at l.self.records.now l.b).flags))
    × (fed_in l.self (ahead (record_at l.self.records.now l.b) l.self.codes.now l.at l.from l.g) l.w ≡ fed_in l.self (ahead (record_at l.self.records.now l.b) l.self.codes.now l.at l.at 0) l.initial.w)
