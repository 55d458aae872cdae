use mathlib.Core.Path.{sym, ap, ◌∙◌}
use Prim.Native.Nat.{◌<◌}
use native.Mathlib.Omega.{arith}
use lib.ListN.{length, get_or, length-append}
use Rattle.std.proofs.lemmas.List.Elements.{All-get_or}
use Rattle.std.proofs.lemmas.Slice.Zip.{zip_turn, zip_end}
use Rattle.rules.specs.Bytes.{op_bytes}
use Rattle.rules.proofs.Digits.{sets_append}
use Rattle.rules.proofs.Operations.{op}
use Rattle.operation.proofs.Pairs.{paired}
use Rattle.encoder.proofs.Items.{ops_turn, ops_end}
use Rattle.encoder.proofs.input.Input.write_ops.Goals as goal

pub write_op-from-requires : goal.write_op-from-requires
write_op-from-requires c =
    let l = c.loop-code in
    let p = paired c.into_iter-code-iterator.ensures.into_iter_gives c.zip-code-items.ensures.first c.iter.ensures.rest c.zip-code-items.ensures.second c.iter-2.ensures.rest in
    let z = zip_turn _ _ l.yielded _ l.code-iterator c.next.new.self _ p.0 p.1 l.yielded_by _ c.in-Some.is c.next.ensures.steps in
    let m = ap length (ops_turn c.args.self.table.now c.args.self.arena.codes.now c.args.self.arena.values.now (length l.yielded) z.0 z.1) in
    rw (z.2 0, z.3 0) (All-get_or (λ k. k < 128) _ (length l.yielded) 0 z.0 c.args.self.known, omega (arith, simp length-append at m))

pub loop-code-preserved : goal.loop-code-preserved
loop-code-preserved c =
    let a = c.args in
    let l = c.loop-code in
    let w = c.write_op-from.ensures in
    let p = paired c.into_iter-code-iterator.ensures.into_iter_gives c.zip-code-items.ensures.first c.iter.ensures.rest c.zip-code-items.ensures.second c.iter-2.ensures.rest in
    let z = zip_turn _ _ l.yielded _ l.code-iterator c.next.new.self _ p.0 p.1 l.yielded_by _ c.in-Some.is c.next.ensures.steps in
    let m = ops_turn a.self.table.now a.self.arena.codes.now a.self.arena.values.now (length l.yielded) z.0 z.1 in
    let v = rw (z.2 0, z.3 0) at w in
    rw length-append record {
      place = omega (arith, v.0, simp length-append at (ap length m), l.invariant.place);
      bytes = rw (v.1, v.0) (sym (sets_append l.out l.from (op_bytes a.self.table.now (op (get_or a.self.arena.codes.now (length l.yielded) 0) (get_or a.self.arena.values.now (length l.yielded) 0))) _) ∙ (rw m at l.invariant.bytes));
    }

pub returns : goal.returns
returns c =
    let a = c.args in
    let l = c.loop-code in
    let p = paired c.into_iter-code-iterator.ensures.into_iter_gives c.zip-code-items.ensures.first c.iter.ensures.rest c.zip-code-items.ensures.second c.iter-2.ensures.rest in
    let z = zip_end _ _ l.yielded _ l.code-iterator c.next.new.self _ p.0 p.1 l.yielded_by c.in-None.is c.next.ensures.steps in
    let e = ops_end a.self.table.now a.self.arena.codes.now a.self.arena.values.now (length l.yielded) (omega (arith, z, a.self.even)) in
    record { place = omega (arith, ap length e, l.invariant.place); bytes = rw e at l.invariant.bytes }
