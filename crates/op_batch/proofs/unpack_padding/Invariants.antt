use Rattle.std.proofs.Common.{◌≡◌, ◌+◌, ◌-◌}
use lib.Seq.{sets}
use Rattle.rules.specs.Digits.{digits}
use Rattle.op_batch.proofs.unpack_padding.Given as goal

abbrev pub invariant-loop-i : goal.invariant-loop-i
invariant-loop-i l = sets l.out (l.at + l.i) (digits 2 (8 - l.i) l.left) ≡ sets l.initial.out l.at (digits 2 8 l.v)
