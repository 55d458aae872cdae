use mathlib.Core.Path.{◌≡◌}
use Prim.Native.Nat.{◌+◌, ◌-◌, ◌*◌}
use lib.Seq.{sets}
use Rattle.rules.specs.Record.{records_from, records_in}
use Rattle.rules.specs.Bytes.{nibble_bytes}
use Rattle.encoder.proofs.input.Input.write_deltas.Given as goal

abbrev pub invariant-loop-b : goal.invariant-loop-b
invariant-loop-b l = sets l.out (l.at + 4 * l.b) (nibble_bytes (records_from (l.n - l.b) l.self.arena.records.now l.b)) ≡ sets l.initial.out l.at (nibble_bytes (records_in l.self.arena.records.now))
