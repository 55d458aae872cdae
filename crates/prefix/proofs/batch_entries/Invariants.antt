use mathlib.Core.Path.{◌≡◌}
use Prim.Native.Nat.{◌+◌, ◌*◌, ◌≤◌}
use lib.ListN.{get_or, drop}
use Rattle.rules.specs.Digits.{number}
use Rattle.op_batch.specs.RecordAt.{recorded}
use Rattle.prefix.proofs.Entries.{On}
use Rattle.prefix.proofs.batch_entries.Given as goal

abbrev pub invariant-loop-g : goal.invariant-loop-g
invariant-loop-g l =
    record {
      start : l.start ≡ get_or (recorded l.batch).starts l.g 0;
      entries : l.done.entries + l.done.waiting ≤ 72 * l.batch.b + l.start;
      paddings : l.done.paddings ≤ 8 * l.batch.b + l.g;
      left : l.left ≡ number 256 (drop l.g (recorded l.batch).flags);
      on : On l.which (recorded l.batch) l.initial.out l.initial.done.entries l.initial.done.waiting l.initial.done.paddings l.g l.out l.done.entries l.done.waiting l.done.paddings;
    }
