use Rattle.std.proofs.Common.{◌≡◌, ◌-◌, ◌++◌, take, length}
use Rattle.rules.specs.Digits.{digits}
use Rattle.word.proofs.digits.Given as goal

abbrev pub invariant-loop-digit : goal.invariant-loop-digit
invariant-loop-digit g l = (length l.digit-items ≡ g.row.N) × (take l.digit-index l.digit-items ++ digits g.row.B (g.row.N - l.digit-index) l.left ≡ digits g.row.B g.row.N l.v)
