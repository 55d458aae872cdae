use Rattle.std.proofs.Common.{◌≡◌, ℕ, List, ◌++◌}
use Rattle.rules.specs.Digits.{number}
use Rattle.word.proofs.from_digits.Given as goal

abbrev pub invariant-loop-digit : goal.invariant-loop-digit
invariant-loop-digit g l = (done : List ℕ) × (l.digits ≡ l.digit-iterator.iter.rest.now ++ done) × (l.v ≡ number g.row.B done)
