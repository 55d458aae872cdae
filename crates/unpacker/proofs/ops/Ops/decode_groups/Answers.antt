use mathlib.Core.Path.{sym, ap, ◌∙◌}
use Prim.Native.Nat.{◌%◌}
use native.Mathlib.Omega.{arith}
use lib.Seq.{length-take-le}
use Rattle.rules.specs.Answer.{found}
use Rattle.refusal.proofs.Told.{handed_by}
use Rattle.wire.proofs.Stages.{staged_lost, staged_found}
use Rattle.unpacker.proofs.Groups as G
use Rattle.unpacker.proofs.ops.Ops.decode_groups.Goals as goal

pub loop-g-preserved-then-n-eq0 : goal.loop-g-preserved-then-n-eq0
loop-g-preserved-then-n-eq0 c = G.walk_empty c.loop-g.invariant (omega arith) (omega arith) c.if-n-eq0.true

pub slice_bounds-group-end : goal.slice_bounds-group-end
slice_bounds-group-end c = omega (arith, G.group_fits c.loop-g.invariant (omega arith) (omega arith))

pub group_number-requires : goal.group_number-requires
group_number-requires c =
    let l = c.loop-g in
    let f = G.group_fits l.invariant (omega arith) (omega arith) in
    let s = G.group_small l.invariant (omega arith) (omega arith) in
    (omega (arith, G.lent_length c.args.self.codes.now l.from (l.left % 16) f), G.lent_coded _ _ _ f c.args.self.coded)

pub invariant_of-group : goal.invariant_of-group
invariant_of-group c =
    let l = c.loop-g in
    let f = G.group_fits l.invariant (omega arith) (omega arith) in
    record {
      low = c.args.self.low;
      even = G.lent_length c.args.self.codes.now l.from (l.left % 16) f ∙ sym (G.lent_length c.args.self.values.now l.from (l.left % 16) (omega arith));
      coded = G.lent_coded _ _ _ f c.args.self.coded;
    }

pub place_immediates-requires : goal.place_immediates-requires
place_immediates-requires c = (omega arith, G.group_stored c.loop-g.invariant (omega arith) (omega arith) _)

pub returns-in_err-placed : goal.returns-in_err-placed
returns-in_err-placed c =
    let l = c.loop-g in
    staged_lost (G.walk_refused l.invariant (omega arith) (omega arith) c.group_number.ensures c.if-n-eq0.false c.args.self.even c.in_err-placed.ensures) (handed_by _ _ _ c.from_residual.ensures.1)

pub loop-g-preserved : goal.loop-g-preserved
loop-g-preserved c =
    let l = c.loop-g in
    G.walk_group l.invariant (omega arith) (omega arith) c.group_number.ensures c.if-n-eq0.false c.args.self.even c.in_ok-placed.ensures

pub returns : goal.returns
returns c =
    let l = c.loop-g in
    let w = l.invariant in
    let k = length-take-le l.count l.groups (omega (arith, w.up, w.under, G.eight _ _ w.numbers)) in
    staged_found (w.walk ∙ G.done _ _ _ _ _ _ l.g l.left l.from (omega arith)) (ap (λ n. found n l.from) (sym k)) (w.numbers, omega (arith, w.up, w.under), omega (arith, w.room))
