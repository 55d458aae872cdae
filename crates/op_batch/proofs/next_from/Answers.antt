use Rattle.std.proofs.Common.{◌+◌, ◌<◌, ◌≤◌, get_or, rules, arith}
use borrow.Author.Tests.{tests}
use Rattle.std.proofs.lemmas.Iterator.{first_from_Range}
use Rattle.op_batch.proofs.Places.{next_found}
use Rattle.op_batch.proofs.next_from.Goals as goal

pub returns : goal.returns
returns c =
    let s = c.args.starts.now in
    next_found c.args.count s (omega arith) c.args.k c.find.result
    (first_from_Range _ _ _ c.find.result (λ g. get_or s g 0 < get_or s (g + 1) 0) (λ g. get_or s (g + 1) 0 ≤ get_or s g 0) c.find.ensures.ran (λ x q k. search (rules, tests)) (λ x q k. search (rules, tests)))
