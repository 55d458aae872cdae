use Rattle.std.proofs.Common.{◌≡◌, length, rules}
use Rattle.rules.specs.Checks.{record_right}
use Rattle.op_batch.proofs.OpBatch.right.Goals as goal

pub layout_right-requires : goal.layout_right-requires
layout_right-requires c =
    let s : length c.args.self.now.starts ≡ 9 = search rules in
    (c.requires, s)

pub returns : goal.returns
unfolding record_right
returns c = c.layout_right.ensures
