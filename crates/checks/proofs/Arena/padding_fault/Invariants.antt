use Rattle.rules.specs.Checks.{padding_fault}
use Rattle.checks.proofs.Batches.{Came}
use Rattle.checks.proofs.Arena.padding_fault.Given as goal

abbrev pub invariant-loop-b : goal.invariant-loop-b
invariant-loop-b l = Came padding_fault l.self.codes.now l.self.values.now l.self.records.now l.n l.b l.from
