use mathlib.Core.Path.{sym}
use Prim.Native.Nat.{◌*◌}
use native.Mathlib.Omega.{arith}
use lib.ListN.{length-take}
use Rattle.strict.proofs.Ways.{refused_way, asks, passed_way, late_way}
use Rattle.strict.proofs.decode_strict.Goals as goal

pub returns-in_err-made : goal.returns-in_err-made
returns-in_err-made c = refused_way _ _ _ _ _ _ c.decode.ensures _ c.in_err-made.was _ c.from_residual.ensures.1

pub slice_bounds-walk-end : goal.slice_bounds-walk-end
slice_bounds-walk-end c = (asks _ _ _ _ _ _ c.decode.ensures _ c.in_ok-made.was).0

pub slice_bounds-walk-end-2 : goal.slice_bounds-walk-end-2
slice_bounds-walk-end-2 c =
    let q = asks _ _ _ _ _ _ c.decode.ensures _ c.in_ok-made.was in
    omega (arith, length-take c.in_ok-made.made.operations c.decode.new.out_codes, q.0)

pub overflow_mul-walk : goal.overflow_mul-walk
overflow_mul-walk c = let q = asks _ _ _ _ _ _ c.decode.ensures _ c.in_ok-made.was in omega (arith, q.1)

pub slice_bounds-walk-end-3 : goal.slice_bounds-walk-end-3
slice_bounds-walk-end-3 c = (asks _ _ _ _ _ _ c.decode.ensures _ c.in_ok-made.was).1

pub slice_bounds-walk-end-4 : goal.slice_bounds-walk-end-4
slice_bounds-walk-end-4 c =
    let q = asks _ _ _ _ _ _ c.decode.ensures _ c.in_ok-made.was in
    omega (arith, length-take (82 * c.in_ok-made.made.batches) c.decode.new.records, q.1)

pub invariant_of-walk : goal.invariant_of-walk
invariant_of-walk c = record { judged = (asks _ _ _ _ _ _ c.decode.ensures _ c.in_ok-made.was).2 }

pub returns-in-Err : goal.returns-in-Err
returns-in-Err c = late_way _ _ _ _ _ _ c.decode.ensures _ c.in_ok-made.was _ (sym c.in-Err.ensures) _ c.clear_after.ensures

pub returns : goal.returns
returns c = passed_way _ _ _ _ _ _ c.decode.ensures _ c.in_ok-made.was (sym c.in_default.ensures)
