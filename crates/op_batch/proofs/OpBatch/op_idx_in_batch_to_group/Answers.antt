use Rattle.std.proofs.Common.{sym, ap, ◌∙◌}
use Rattle.rules.specs.Answer.{good}
use Rattle.rules.specs.Lookups.{group_of}
use Rattle.rules.specs.Functions.{group_lookup}
use Rattle.op_batch.specs.OpBatch.{record_in}
use Rattle.op_batch.proofs.Right.{sound}
use Rattle.op_batch.proofs.OpBatch.op_idx_in_batch_to_group.Goals as goal

pub returns-then-not-right : goal.returns-then-not-right
unfolding group_lookup
returns-then-not-right c = rw (sym c.right.ensures ∙ c.if-not-right.true)

pub group_of-requires : goal.group_of-requires
group_of-requires c =
    let b = c.args.self in
    (sound 8 (record_in b) (sym c.right.ensures ∙ c.if-not-right.false)).first

pub returns : goal.returns
unfolding group_lookup group_of
returns c = rw (sym c.right.ensures ∙ c.if-not-right.false) (ap good c.group_of.ensures)
