use Rattle.std.proofs.Common.{pos, sym, ◌∙◌, get_or, w32, SFits, rules, arith}
use mir.ValLaws.{to_z-of_z}
use Rattle.comparison.proofs.Read.{read_size, are_four, of_four, no_size, refused}
use Rattle.comparison.proofs.entry.EntryTryFromRefSliceI32.try_from.Goals as goal

pub returns-in_default : goal.returns-in_default
returns-in_default c = λ x h. let e = of_four x _ h in omega (arith, e.0)

pub returns-in_default-3 : goal.returns-in_default-3
returns-in_default-3 c = λ x h. let e = of_four x _ h in omega (arith, e.0)

pub returns-in_err-kind : goal.returns-in_err-kind
returns-in_err-kind c =
    let z : SFits w32 (get_or c.args.numbers.now 0 (pos 0)) = search rules in
    refused _ _ c.from_residual.ensures.0 (λ x h. c.in_err-kind.ensures x.kind ((of_four x _ h).1 ∙ sym (to_z-of_z w32 _ z)))

pub returns-in_default-2 : goal.returns-in_default-2
returns-in_default-2 c = λ x h.
    let z : SFits w32 (get_or c.args.numbers.now 2 (pos 0)) = search rules in
    let e = of_four x _ h in
    no_size _ z c.in_default-2.ensures' _ e.3

pub returns-in_default-2-2 : goal.returns-in_default-2-2
returns-in_default-2-2 c = λ x h.
    let z : SFits w32 (get_or c.args.numbers.now 1 (pos 0)) = search rules in
    let e = of_four x _ h in
    let r = c.in_default-2.is-0 in
    no_size _ z (rw r at c.try_from-2.ensures) _ e.2

pub returns : goal.returns
returns c =
    let s = c.args.numbers.now in
    let k : SFits w32 (get_or s 0 (pos 0)) = search rules in
    let b : SFits w32 (get_or s 1 (pos 0)) = search rules in
    let p : SFits w32 (get_or s 2 (pos 0)) = search rules in
    let d : SFits w32 (get_or s 3 (pos 0)) = search rules in
    are_four _ s (omega arith) (c.in_ok-kind.ensures ∙ to_z-of_z w32 _ k) (read_size _ _ b c.in-Ok-Ok.ensures.0 c.in-Ok-Ok.ensures.1) (read_size _ _ p c.in-Ok-Ok.ensures'.0 c.in-Ok-Ok.ensures'.1) (to_z-of_z w32 _ d)
