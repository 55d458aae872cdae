-- The record that lies in a lent run.
use Rattle.rules.specs.Record.{Record, record_at}
use Rattle.op_batch.specs.declared.record_at.RecordAt.{RecordAt}

abbrev pub recorded : RecordAt → Record
recorded r = record_at r.records.now r.b
