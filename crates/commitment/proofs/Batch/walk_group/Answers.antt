use mathlib.Core.Path.{◌∙◌}
use native.Mathlib.Omega.{arith}
use Rattle.commitment.proofs.Slots.{slots_done, slots_over, slots_stop, slots_turn, unit_next, product_small, sum_turn, sum_done}
use Rattle.std.proofs.lemmas.Slice.Zip.{zip_turn, zip_end}
use lib.ListN.{length, length-append}
use Rattle.operation.proofs.Pairs.{paired}
use Rattle.commitment.proofs.Batch.walk_group.Goals as goal

pub returns-in_err-kind-clause-next : goal.returns-in_err-kind-clause-next
returns-in_err-kind-clause-next c =
    let l = c.loop-code in
    let p = paired c.into_iter-code-iterator.ensures.into_iter_gives c.zip-code-items.ensures.first c.iter.ensures.rest c.zip-code-items.ensures.second c.iter-2.ensures.rest in
    let z = zip_turn _ _ l.yielded _ l.code-iterator c.next.new.self _ p.0 p.1 l.yielded_by _ c.in-Some.is c.next.ensures.steps in
    let g = c.args.group in
    rw c.from_residual.ensures (slots_over _ _ _ _ g.same (length l.yielded) l.next z.0 (rw (z.2 0) at c.in_err-kind.ensures.lookup.3) ∙ l.invariant.slots)

pub returns-in_err-next-clause-next : goal.returns-in_err-next-clause-next
returns-in_err-next-clause-next c =
    let l = c.loop-code in
    let p = paired c.into_iter-code-iterator.ensures.into_iter_gives c.zip-code-items.ensures.first c.iter.ensures.rest c.zip-code-items.ensures.second c.iter-2.ensures.rest in
    let z = zip_turn _ _ l.yielded _ l.code-iterator c.next.new.self _ p.0 p.1 l.yielded_by _ c.in-Some.is c.next.ensures.steps in
    let g = c.args.group in
    let k = rw (z.2 0) at c.in_ok-kind.ensures.lookup in
    rw c.from_residual-in_err-next.ensures (slots_stop _ _ _ _ g.same (length l.yielded) l.next z.0 _ (omega (arith, k)) k.1 (rw (z.3 0) at c.in_err-next.ensures.value) ∙ l.invariant.slots)

pub loop-code-preserved : goal.loop-code-preserved
loop-code-preserved c =
    let l = c.loop-code in
    let p = paired c.into_iter-code-iterator.ensures.into_iter_gives c.zip-code-items.ensures.first c.iter.ensures.rest c.zip-code-items.ensures.second c.iter-2.ensures.rest in
    let z = zip_turn _ _ l.yielded _ l.code-iterator c.next.new.self _ p.0 p.1 l.yielded_by _ c.in-Some.is c.next.ensures.steps in
    let i = l.invariant in
    let g = c.args.group in
    let k = rw (z.2 0) at c.in_ok-kind.ensures.lookup in
    rw length-append record {
      low = c.in_ok-next.ensures.low;
      unit = unit_next l.unit (length l.yielded) i.unit;
      below = omega (arith, i.below, product_small c.from.result l.unit (omega (arith, c.from.ensures, k)));
      number = sum_turn _ _ g.same (length l.yielded) l.number l.unit _ i.number z.0 _ (rw (z.2 0) at c.from.ensures);
      slots = slots_turn _ _ _ _ g.same (length l.yielded) l.next z.0 _ (omega (arith, k)) k.1 _ (rw (z.3 0) at c.in_ok-next.ensures.value) ∙ i.slots;
    }

pub returns-clause-next : goal.returns-clause-next
returns-clause-next c =
    let l = c.loop-code in
    let p = paired c.into_iter-code-iterator.ensures.into_iter_gives c.zip-code-items.ensures.first c.iter.ensures.rest c.zip-code-items.ensures.second c.iter-2.ensures.rest in
    let z = zip_end _ _ l.yielded _ l.code-iterator c.next.new.self _ p.0 p.1 l.yielded_by c.in-None.is c.next.ensures.steps in
    slots_done _ _ _ _ c.args.group.same (length l.yielded) l.next (omega (arith, z, c.args.group.same)) ∙ l.invariant.slots

pub returns-clause-number : goal.returns-clause-number
returns-clause-number c =
    let l = c.loop-code in
    let p = paired c.into_iter-code-iterator.ensures.into_iter_gives c.zip-code-items.ensures.first c.iter.ensures.rest c.zip-code-items.ensures.second c.iter-2.ensures.rest in
    let z = zip_end _ _ l.yielded _ l.code-iterator c.next.new.self _ p.0 p.1 l.yielded_by c.in-None.is c.next.ensures.steps in
    sum_done _ _ c.args.group.same (length l.yielded) l.number l.unit _ l.invariant.number (omega arith)
