-- No public contract cites this page: a block as it lies.
use Rattle.std.specs.Prelude.{List}
use Rattle.rules.specs.Operations.{Op, operations}
use Rattle.rules.specs.Compare.{Entry, blocks_apart}
use Rattle.rules.specs.Functions.{Arena, arena, block_in}
use Rattle.comparison.specs.declared.Block.{Block}

abbrev pub lying : Block → Arena
lying b = arena b.codes.now b.values.now b.records.now

abbrev pub ops_in : Block → List Op
ops_in b = operations b.codes.now b.values.now

-- how two of them differ
abbrev pub apart_in : Block → Block → List Entry
apart_in b c = blocks_apart (block_in (lying b)) (block_in (lying c))
