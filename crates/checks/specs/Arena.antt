-- A block as it lies, in document 01's words.
use Rattle.rules.specs.Functions as rules
use Rattle.rules.specs.Functions.{arena}
use Rattle.checks.specs.declared.Arena.{Arena}

abbrev pub lying : Arena → rules.Arena
lying a = arena a.codes.now a.values.now a.records.now
