use mathlib.Core.Bool.{not}
use mathlib.Core.Path.{ap₂, ◌∙◌}
use Prim.Native.Nat.{ℕ, min}
use lib.ListN.{drop}
use lib.Dec.{eqb}
use Rattle.rules.specs.Operations.{operations}
use Rattle.rules.specs.Record.{differences, record_at}
use Rattle.rules.specs.Checks.{ninth}
use Rattle.rules.specs.Compare.{same_op}
use Rattle.op_batch.proofs.Right.{numbers_length}
use Rattle.comparison.specs.Model.{apart_of}
use Rattle.comparison.proofs.Places.{numbers_found, apart_take}
use Rattle.comparison.proofs.Blocks.{of_eight, starts_right_lem, sizes_bytes, flags_bytes, bytes_found}
use Rattle.comparison.proofs.Block.batch_apart.Goals as goal

pub sizes-requires : goal.sizes-requires
sizes-requires c = starts_right_lem _ _ _ _ _ c.requires.0

pub sizes-requires-2 : goal.sizes-requires-2
sizes-requires-2 c = starts_right_lem _ _ _ _ _ c.requires.1

pub returns : goal.returns
unfolding apart_of
returns c =
    let a = c.args in
    let x = a.self.now in
    let y = a.other.now in
    let p = c.requires.0 in
    let q = c.requires.1 in
    let r = record_at x.records.now a.b in
    let s = record_at y.records.now a.b in
    let l = of_eight _ _ _ _ _ p in
    let m = of_eight _ _ _ _ _ q in
    let number = numbers_found 8 r.numbers s.numbers _ (numbers_length x.records.now a.b) (numbers_length y.records.now a.b) c.numbers_apart.ensures in
    let flag = bytes_found r.flags s.flags _ _ _ l.flags (flags_bytes _ _ _ _ _ p) m.flags (flags_bytes _ _ _ _ _ q) c.flags.ensures c.flags-2.ensures c.byte_apart.ensures in
    let size = bytes_found (differences r.starts) (differences s.starts) _ _ _ (sizes_bytes _ _ _ _ _ p).0 (sizes_bytes _ _ _ _ _ p).1 (sizes_bytes _ _ _ _ _ q).0 (sizes_bytes _ _ _ _ _ q).1 c.sizes.ensures c.sizes-2.ensures c.byte_apart-2.ensures in
    let n = c.min-both.ensures ∙ ap₂ min c.len.ensures.0 c.len-2.ensures.0 in
    let operation = c.ops_apart.ensures
    ∙ apart_take same_op 0 _ (ninth r) (ninth s) (drop a.from (operations x.codes.now x.values.now)) (drop a.at (operations y.codes.now y.values.now)) n in
    let count = ap₂ (λ (j k : ℕ). not (eqb j k)) c.count.ensures.0 c.count-2.ensures.0 in
    λ j. record { number = number j; flag = flag j; length = size j; operation = operation j; count = count j }
