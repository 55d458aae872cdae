use mathlib.Core.Path.{◌≡◌}
use Prim.Native.Nat.{◌-◌}
use lib.ListN.{length, take}
use Rattle.rules.specs.Operations.{operations}
use Rattle.rules.specs.Bytes.{ops_at}
use Rattle.wire.proofs.Stages.{onto}
use Rattle.decoder.proofs.read_ops.Given as goal

abbrev pub invariant-loop-i : goal.invariant-loop-i
invariant-loop-i l =
    (length l.out_codes ≡ length l.initial.out_codes) × (length l.out_values ≡ length l.initial.out_values)
    × (onto (operations (take l.i l.out_codes) (take l.i l.out_values)) (ops_at l.table l.s (l.n - l.i) l.next l.i) ≡ ops_at l.table l.s l.n l.at 0)
