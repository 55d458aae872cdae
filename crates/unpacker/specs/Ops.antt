-- The operations that two lent runs hold.
use Rattle.std.specs.Prelude.{List}
use Rattle.rules.specs.Operations.{Op, operations}
use Rattle.unpacker.specs.declared.ops.Ops.{Ops}

abbrev pub ops_in : Ops → List Op
ops_in o = operations o.codes.now o.values.now
