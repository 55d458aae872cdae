use Rattle.rules.specs.Checks.{commitment_fault}
use Rattle.checks.proofs.Batches.{Came}
use Rattle.commitment.proofs.Block.first_fault.Given as goal

abbrev pub invariant-loop-b : goal.invariant-loop-b
invariant-loop-b l = Came (commitment_fault l.self.table.now) l.self.arena.codes.now l.self.arena.values.now l.self.arena.records.now l.b-end l.b l.from
