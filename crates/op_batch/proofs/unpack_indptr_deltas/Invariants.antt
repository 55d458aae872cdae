use Rattle.std.proofs.Common.{◌≡◌, ◌+◌, ◌-◌, ◌*◌, ◌≤◌}
use lib.Seq.{sets}
use Rattle.rules.specs.Digits.{digits}
use Rattle.rules.specs.Record.{starts_from}
use Rattle.op_batch.proofs.unpack_indptr_deltas.Given as goal

abbrev pub invariant-loop-i : goal.invariant-loop-i
invariant-loop-i l = (l.sum ≤ 15 * l.i) × (sets l.out (l.at + l.i) (starts_from l.sum (digits 16 (8 - l.i) l.left)) ≡ sets l.initial.out l.at (starts_from 0 (digits 16 8 l.v)))
