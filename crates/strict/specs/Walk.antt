-- No public contract cites this page: what the walk over a block has added.
use Rattle.std.specs.Prelude.{List, ℕ, ◌/◌, length}
use Rattle.rules.specs.Record.{record_size}
use Rattle.strict.specs.declared.Walk.{Walk}
use Rattle.strict.specs.declared.Work.{Work}
use Rattle.strict.specs.Model.{fed}

-- how many records the block has
abbrev pub batches_in : Walk → ℕ
batches_in b = length b.records.now / record_size

-- operations, by their opcodes
abbrev pub fed_in : Walk → List ℕ → Work → Work
fed_in b cs e = fed 8 b.table.now b.records.now (batches_in b) cs e
