-- A record that is lent to be written, after a store: its run is what the store makes of it, and the rest stays.
use Rattle.std.specs.Prelude.{List, ℕ}
use Rattle.op_batch.specs.declared.record_mut.RecordMut.{RecordMut}

abbrev pub stored : (List ℕ → List ℕ) → RecordMut → RecordMut
stored f r = record r { records = record r.records { now = f r.records.now } }
