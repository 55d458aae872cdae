use Rattle.prefix.specs.Tables.{table_from, ahead}
use Rattle.rules.specs.Lookups.{marks}
use Rattle.rules.specs.Record.{record_size, records_from}
use lib.Seq.{sets}
use lib.ListN.{length}
use Prim.Native.Nat.{◌+◌, ◌-◌, ◌*◌, ◌/◌, ◌≤◌}
use mathlib.Core.Path.{◌≡◌}
use Rattle.prefix.proofs.fill.Given as goal

abbrev pub invariant-loop-b : goal.invariant-loop-b
invariant-loop-b l =
    record {
      waiting : l.done.entries + l.done.waiting ≤ 72 * l.b;
      paddings : l.done.paddings ≤ 8 * l.b;
      run :
          sets l.out l.done.entries (ahead l.which l.done.waiting l.done.paddings (marks (records_from (length l.records / record_size - l.b) l.records l.b)))
          ≡ sets l.initial.out 0 (table_from l.which 0 (marks (records_from (length l.records / record_size) l.records 0)));
      entries :
          l.done.entries + length (ahead l.which l.done.waiting l.done.paddings (marks (records_from (length l.records / record_size - l.b) l.records l.b)))
          ≡ length (table_from l.which 0 (marks (records_from (length l.records / record_size) l.records 0)));
    }
