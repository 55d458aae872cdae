use mathlib.Core.Path.{◌≡◌}
use Prim.Native.Nat.{◌+◌}
use lib.ListN.{length}
use lib.Seq.{sets}
use Rattle.rules.specs.Operations.{operations}
use Rattle.rules.specs.Bytes.{ops_bytes}
use Rattle.encoder.proofs.Items.{left}
use Rattle.encoder.proofs.input.Input.write_ops.Given as goal

abbrev pub invariant-loop-code : goal.invariant-loop-code
invariant-loop-code l = record {
  place : l.from + length (left l.self.table.now l.self.arena.codes.now l.self.arena.values.now (length l.yielded)) ≡ l.at + length (ops_bytes l.self.table.now (operations l.self.arena.codes.now l.self.arena.values.now));
  bytes : sets l.out l.from (left l.self.table.now l.self.arena.codes.now l.self.arena.values.now (length l.yielded)) ≡ sets l.initial.out l.at (ops_bytes l.self.table.now (operations l.self.arena.codes.now l.self.arena.values.now));
}
