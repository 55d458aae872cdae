use Prim.Native.Nat.{◌-◌}
use Rattle.unpacker.proofs.Groups as G
use Rattle.unpacker.proofs.ops.Ops.decode_groups.Given as goal

abbrev pub invariant-loop-g : goal.invariant-loop-g
invariant-loop-g l = G.Walking l.self.width l.self.table.now l.b l.self.codes.now l.self.values.now l.at l.deltas l.groups l.count l.g l.left l.from

abbrev pub decreases-loop-g : goal.decreases-loop-g
decreases-loop-g l = l.self.width - l.g
