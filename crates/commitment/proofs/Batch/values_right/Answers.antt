use mathlib.Core.Path.{sym, ◌∙◌}
use native.Mathlib.Omega.{arith}
use Rattle.commitment.proofs.Numbers.{agree_done, agree_plain, agree_past, agree_not, agree_next}
use Rattle.commitment.proofs.Groups.{batch_lies}
use Rattle.std.proofs.lemmas.Slice.Zip.{zip_turn, zip_end}
use lib.ListN.{length, length-append}
use Rattle.operation.proofs.Pairs.{paired}
use Rattle.commitment.proofs.Batch.values_right.Goals as goal
use Rattle.commitment.proofs.Batch.values_right.Goals.{then-j-ge8-via-then-j-ge8, then-j-ge8-via-else-j-ge8+then-number-value}

pub loop-code-preserved-then-not-placed : goal.loop-code-preserved-then-not-placed
loop-code-preserved-then-not-placed c =
    let l = c.loop-code in
    let p = paired c.into_iter-code-iterator.ensures.into_iter_gives c.zip-code-items.ensures.first c.iter.ensures.rest c.zip-code-items.ensures.second c.iter-2.ensures.rest in
    let z = zip_turn _ _ l.yielded _ l.code-iterator c.next.new.self _ p.0 p.1 l.yielded_by _ c.in-Some.is c.next.ensures.steps in
    let a = c.args in
    rw length-append record { low = l.invariant.low; same = agree_plain _ _ _ _ a.group.same (length l.yielded) l.j z.0 (rw (z.2 0) at (sym c.if-not-placed.ensures)) ∙ l.invariant.same }

pub returns-then-j-ge8 : goal.returns-then-j-ge8
returns-then-j-ge8 c =
    let l = c.loop-code in
    let p = paired c.into_iter-code-iterator.ensures.into_iter_gives c.zip-code-items.ensures.first c.iter.ensures.rest c.zip-code-items.ensures.second c.iter-2.ensures.rest in
    let z = zip_turn _ _ l.yielded _ l.code-iterator c.next.new.self _ p.0 p.1 l.yielded_by _ c.in-Some.is c.next.ensures.steps in
    let a = c.args in
    let n = (batch_lies a.self).laid.numbers in
    elim c.then-j-ge8.branch [
      | then-j-ge8-via-then-j-ge8 w ↦ sym (agree_past _ _ _ _ a.group.same (length l.yielded) l.j z.0 (rw (z.2 0) at (sym c.if-not-placed.ensures)) (omega (arith, n, w.if-j-ge8.true))) ∙ l.invariant.same
      | then-j-ge8-via-else-j-ge8+then-number-value w ↦
          sym (agree_not _ _ _ _ a.group.same (length l.yielded) l.j z.0 (rw (z.2 0) at (sym c.if-not-placed.ensures)) (omega (arith, n, w.if-j-ge8.false)) (λ e. w.if-number-value.true (w.number.ensures ∙ e ∙ sym (z.3 0)))) ∙ l.invariant.same
    ]

pub loop-code-preserved : goal.loop-code-preserved
loop-code-preserved c =
    let l = c.loop-code in
    let p = paired c.into_iter-code-iterator.ensures.into_iter_gives c.zip-code-items.ensures.first c.iter.ensures.rest c.zip-code-items.ensures.second c.iter-2.ensures.rest in
    let z = zip_turn _ _ l.yielded _ l.code-iterator c.next.new.self _ p.0 p.1 l.yielded_by _ c.in-Some.is c.next.ensures.steps in
    let a = c.args in
    let n = (batch_lies a.self).laid.numbers in
    rw length-append record {
      low = omega arith;
      same = agree_next _ _ _ _ a.group.same (length l.yielded) l.j z.0 (rw (z.2 0) at (sym c.if-not-placed.ensures)) (omega (arith, n, c.if-j-ge8.false)) (sym c.number.ensures ∙ c.if-number-value.false ∙ z.3 0) ∙ l.invariant.same;
    }

pub returns : goal.returns
returns c =
    let l = c.loop-code in
    let p = paired c.into_iter-code-iterator.ensures.into_iter_gives c.zip-code-items.ensures.first c.iter.ensures.rest c.zip-code-items.ensures.second c.iter-2.ensures.rest in
    let z = zip_end _ _ l.yielded _ l.code-iterator c.next.new.self _ p.0 p.1 l.yielded_by c.in-None.is c.next.ensures.steps in
    let a = c.args in sym (agree_done _ _ _ _ a.group.same (length l.yielded) l.j (omega (arith, z, c.args.group.same))) ∙ l.invariant.same
