use mathlib.Core.Path.{◌≡◌}
use Prim.Native.Nat.{◌≤◌}
use lib.ListN.{length}
use Rattle.unpacker.specs.Ops.{ops_in}
use Rattle.decoder.proofs.Batches as B
use Rattle.decoder.proofs.decode_each.Given as goal

abbrev pub invariant-loop-b : goal.invariant-loop-b
invariant-loop-b l =
    (l.next ≤ length l.ops.codes.now) × (length l.records ≡ length l.initial.records) × B.Going l.ops.width l.ops.table.now (ops_in l.ops) l.s l.sizes l.flags l.k l.records l.b l.next
