use mathlib.Core.Path.{◌≡◌}
use Rattle.rules.specs.Bytes.{nibbles_at}
use Rattle.wire.specs.Stages.{after}
use Rattle.decoder.proofs.Sizes.{end_from}
use Rattle.decoder.proofs.nibbles_right.Given as goal

abbrev pub invariant-loop-b : goal.invariant-loop-b
invariant-loop-b l = end_from l.s l.at l.k l.b ≡ after (nibbles_at 8 l.s l.k l.at 0)
