use mathlib.Core.Path.{◌≡◌}
use Rattle.rules.specs.Checks.{commitment_fault}
use Rattle.checks.proofs.Batches.{Came}
use Rattle.commitment.specs.Walk.{admissible_from}
use Rattle.commitment.proofs.Block.is_right.Given as goal

abbrev pub invariant-loop-b : goal.invariant-loop-b
invariant-loop-b l = record {
  came : Came (commitment_fault l.self.table.now) l.self.arena.codes.now l.self.arena.values.now l.self.arena.records.now l.b-end l.b l.from;
  scan : admissible_from l.self.table.now l.self.arena.codes.now l.self.arena.values.now l.from ≡ admissible_from l.self.table.now l.self.arena.codes.now l.self.arena.values.now 0;
}
