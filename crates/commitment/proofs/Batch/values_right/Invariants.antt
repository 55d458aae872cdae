use mathlib.Core.Path.{◌≡◌}
use Prim.Native.Nat.{◌≤◌}
use lib.ListN.{drop, length}
use Rattle.rules.specs.Record.{immediates}
use Rattle.rules.specs.Checks.{begins}
use Rattle.commitment.specs.View.{ops_in, record_of}
use Rattle.commitment.proofs.Numbers.{from_on}
use Rattle.commitment.proofs.Batch.values_right.Given as goal

abbrev pub invariant-loop-code : goal.invariant-loop-code
invariant-loop-code l =
    record {
      low : l.j ≤ 8;
      same :
          begins (drop l.j (record_of l.self).numbers) (immediates l.self.block.table.now (from_on l.group.codes.now l.group.values.now (length l.yielded)))
          ≡ begins (drop l.g (record_of l.self).numbers) (immediates l.self.block.table.now (ops_in l.group));
    }
