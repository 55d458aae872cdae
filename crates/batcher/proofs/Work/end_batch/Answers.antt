use Rattle.std.proofs.Common.{rules}
use Rattle.op_batch.proofs.Stored.{given_back}
use Rattle.batcher.specs.Model.{ended_work, ended_work_run}
use Rattle.batcher.proofs.Work.end_batch.Goals as goal

pub returns : goal.returns
unfolding ended_work ended_work_run
returns c =
    let e = c.into_batch-total.ensures in
    record { work = rw (e.total, c.new.ensures); run = search (rules, given_back e.run) }
