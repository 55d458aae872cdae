use Rattle.rules.specs.Record.{record_at}
use Rattle.op_batch.proofs.record_at.RecordAt.load.Goals as goal

pub returns : goal.returns
unfolding record_at
returns c = rw (c.load_bytes.ensures, c.load_bytes-2.ensures, c.load_words.ensures)
