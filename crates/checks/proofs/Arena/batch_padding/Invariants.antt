use mathlib.Core.Path.{◌≡◌}
use Prim.Native.Nat.{◌^◌, ◌<◌}
use lib.ListN.{length, drop}
use Rattle.rules.specs.Digits.{number}
use Rattle.rules.specs.Operations.{operations}
use Rattle.rules.specs.Record.{record_at}
use Rattle.checks.proofs.Groups.{Lying}
use Rattle.checks.proofs.Flags.{pad_left}
use Rattle.checks.proofs.Arena.batch_padding.Given as goal

abbrev pub invariant-loop-g : goal.invariant-loop-g
invariant-loop-g l =
    Lying (record_at l.self.records.now l.b) l.self.codes.now l.self.values.now l.from
    × (l.count ≡ (record_at l.self.records.now l.b).count)
    × (pad_left (record_at l.self.records.now l.b) (operations l.self.codes.now l.self.values.now) l.from l.g ≡ pad_left (record_at l.self.records.now l.b) (operations l.self.codes.now l.self.values.now) l.from 0)
    × (l.left ≡ number 256 (drop l.g (record_at l.self.records.now l.b).flags))
    × (length l.self.codes.now < 2 ^ 64)
