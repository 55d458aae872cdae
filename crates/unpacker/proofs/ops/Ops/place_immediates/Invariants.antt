use Rattle.rules.specs.Operations.{operations}
use Rattle.rules.specs.Record.{immediates}
use Rattle.unpacker.specs.Groups.{Placed}
use Rattle.unpacker.proofs.Groups as G
use Rattle.unpacker.proofs.ops.Ops.place_immediates.Given as goal

abbrev pub invariant-loop-i : goal.invariant-loop-i
invariant-loop-i l =
    Placed l.self.width l.self.table.now l.b (immediates l.self.table.now (operations l.self.codes.now l.self.values.now)) l.initial.groups l.slot l.deltas (G.due l.self.table.now l.self.codes.now l.self.values.now l.i) l.groups l.next l.left
