use mathlib.Core.Path.{◌≡◌}
use Prim.Native.Nat.{◌+◌, ◌*◌, ◌^◌, ◌≤◌, ◌<◌}
use lib.ListN.{length}
use Rattle.rules.specs.Record.{codes_number}
use Rattle.commitment.specs.Walk.{slots_after}
use Rattle.commitment.specs.View.{ops_in, record_of}
use Rattle.commitment.proofs.Numbers.{from_on}
use Rattle.commitment.proofs.Batch.walk_group.Given as goal

abbrev pub invariant-loop-code : goal.invariant-loop-code
invariant-loop-code l =
    record {
      low : l.next ≤ 8;
      unit : l.unit ≡ 128 ^ length l.yielded;
      below : l.number < l.unit;
      number : l.number + l.unit * codes_number (from_on l.group.codes.now l.group.values.now (length l.yielded)) ≡ codes_number (ops_in l.group);
      slots : slots_after l.self.block.table.now (from_on l.group.codes.now l.group.values.now (length l.yielded)) (record_of l.self).numbers l.next ≡ slots_after l.self.block.table.now (ops_in l.group) (record_of l.self).numbers l.g;
    }
