-- The record that is shown where a run has none.
use Rattle.std.specs.Prelude.{replicate}
use Rattle.rules.specs.Record.{Record}

abbrev pub no_record : Record
no_record = record { starts = replicate 9 0; flags = replicate 8 0; numbers = replicate 8 0; count = 0 }
