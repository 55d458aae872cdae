use Rattle.std.proofs.Common.{[], ◌∷◌, sym, append-nil, arith}
use Rattle.std.proofs.lemmas.List.{nil_from_length}
use Rattle.rules.specs.Digits.{number}
use Rattle.word.proofs.Bases.{more_done, number_more, still_fits}
use Rattle.word.proofs.from_digits.Goals as goal

pub loop-digit-init : goal.loop-digit-init
unfolding number
loop-digit-init g c = ([], rw (c.into_iter-digit-iterator.ensures.into_iter_gives, c.rev-digit-items.ensures.source, c.iter.ensures.rest) (sym (append-nil c.args.digits.now)), omega arith)

pub overflow_mul-v : goal.overflow_mul-v
overflow_mul-v g c =
    let l = c.loop-digit in
    omega (arith, still_fits _ _ _ _ _ l.invariant.1 c.in-Some.ensures.steps g.row.B _ l.v l.invariant.2 c.requires.0 c.requires.1)

pub overflow_add-v : goal.overflow_add-v
overflow_add-v g c =
    let l = c.loop-digit in
    omega (arith, still_fits _ _ _ _ _ l.invariant.1 c.in-Some.ensures.steps g.row.B _ l.v l.invariant.2 c.requires.0 c.requires.1)

pub loop-digit-preserved : goal.loop-digit-preserved
loop-digit-preserved g c =
    let l = c.loop-digit in
    (c.in-Some.digit.now ∷ l.invariant.0, more_done _ _ _ _ _ l.invariant.1 c.in-Some.ensures.steps, rw c.from.ensures (number_more _ _ _ _ _ l.invariant.1 c.in-Some.ensures.steps g.row.B l.v l.invariant.2))

pub returns : goal.returns
returns g c =
    let l = c.loop-digit in
    let e = rw (nil_from_length _ c.in-None.ensures.steps.0) at l.invariant.1 in
    rw e l.invariant.2
