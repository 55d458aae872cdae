use mathlib.Core.Path.{◌≡◌}
use Rattle.cases.proofs.Case.first_apart.Given as goal

abbrev pub invariant-loop-i : goal.invariant-loop-i
invariant-loop-i g l = l.self.same ≡ l.fn.self.same
