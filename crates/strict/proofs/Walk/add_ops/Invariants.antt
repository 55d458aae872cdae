use mathlib.Core.Path.{◌≡◌}
use lib.ListN.{take}
use Rattle.strict.specs.Walk.{fed_in}
use Rattle.strict.proofs.Walk.add_ops.Given as goal

abbrev pub invariant-loop-code : goal.invariant-loop-code
invariant-loop-code l = l.w ≡ fed_in l.self (take l.code-index l.code-items) l.initial.w
