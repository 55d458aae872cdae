use Rattle.rules.specs.Record.{record_size}
use Prim.Native.Nat.{◌*◌}
use Rattle.rules.specs.Functions.{arena}
use Rattle.comparison.proofs.Flags.{front_zeroed}
use Rattle.comparison.proofs.empty.Goals as goal

pub returns : goal.returns
returns c =
    let a = c.args in
    let p = c.requires in
    let e = front_zeroed a.made.operations a.out_codes.now _ p.0 (c.fill.ensures.after (λ y h. h)) in
    let f = front_zeroed a.made.operations a.out_values.now _ p.1 (c.fill-2.ensures.after (λ y h. h)) in
    let g = front_zeroed (record_size * a.made.batches) a.records.now _ p.2 (c.fill-3.ensures.after (λ y h. h)) in
    λ j. arena (e j) (f j) (g j)
