use Rattle.std.proofs.Common.{◌≡◌, ◌+◌, ◌<◌, ◌≤◌, length, get_or, sym, ap, ◌∙◌, rules}
use borrow.Author.Tests.{tests}
use Rattle.std.specs.Prelude.{None, Some}
use Rattle.std.proofs.lemmas.Iterator.{first_from_Range}
use Rattle.op_batch.specs.OpBatch.{found_in}
use Rattle.op_batch.proofs.Places.{none_holds, starts_before, group_holds}
use Rattle.op_batch.proofs.group_of.Goals as goal

pub returns-in_err-group : goal.returns-in_err-group
returns-in_err-group c =
    let s = c.args.starts.now in
    let i = c.args.index in
    let l : length s ≡ 9 = search rules in
    let q = first_from_Range _ _ _ None (λ g. i < get_or s (g + 1) 0) (λ g. get_or s (g + 1) 0 ≤ i) c.in_err-group.ensures.ran (λ x q k. search (rules, tests)) (λ x q k. search (rules, tests)) in
    c.from_residual.ensures ∙ ap found_in (sym (none_holds s i l q))

pub overflow_sub-result : goal.overflow_sub-result
overflow_sub-result c =
    let s = c.args.starts.now in
    let i = c.args.index in
    let l : length s ≡ 9 = search rules in
    let g = c.in_ok-group.group in
    let q = first_from_Range _ _ _ (Some g) (λ g. i < get_or s (g + 1) 0) (λ g. get_or s (g + 1) 0 ≤ i) c.in_ok-group.ensures.ran (λ x q k. search (rules, tests)) (λ x q k. search (rules, tests)) in
    rw c.from.ensures (starts_before s i l g c.requires q)

pub returns : goal.returns
returns c =
    let s = c.args.starts.now in
    let i = c.args.index in
    let l : length s ≡ 9 = search rules in
    let g = c.in_ok-group.group in
    let q = first_from_Range _ _ _ (Some g) (λ g. i < get_or s (g + 1) 0) (λ g. get_or s (g + 1) 0 ≤ i) c.in_ok-group.ensures.ran (λ x q k. search (rules, tests)) (λ x q k. search (rules, tests)) in
    rw c.from.ensures (ap found_in (sym (group_holds s i l g c.requires q)))
