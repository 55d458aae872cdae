use mathlib.Core.Path.{◌≡◌}
use Prim.Native.Nat.{◌+◌, ◌-◌}
use lib.Seq.{sets}
use Rattle.rules.specs.Record.{records_from, records_in}
use Rattle.rules.specs.Bytes.{flag_bytes}
use Rattle.encoder.proofs.input.Input.write_padding.Given as goal

abbrev pub invariant-loop-b : goal.invariant-loop-b
invariant-loop-b l = sets l.out (l.at + l.b) (flag_bytes (records_from (l.b-end - l.b) l.self.arena.records.now l.b)) ≡ sets l.initial.out l.at (flag_bytes (records_in l.self.arena.records.now))
