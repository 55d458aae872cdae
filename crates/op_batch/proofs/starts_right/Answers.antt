use Rattle.std.proofs.Common.{true, ◌∙◌, rules, arith}
use borrow.Author.Tests.{tests}
use Rattle.std.proofs.lemmas.Iterator.Consumers.{fold_from_yields_List}
use Rattle.op_batch.proofs.Bytes.{pair_right, fold_pairs, YieldsList-from_pairs}
use Rattle.op_batch.proofs.starts_right.Goals as goal

pub returns : goal.returns
returns c =
    let s = c.args.starts.now in
    fold_from_yields_List _ pair_right true _ c.fold.ensures.ran (YieldsList-from_pairs s (cc) (cc)) (λ a x b q k. search (rules, tests))
    ∙ fold_pairs s 0 true (omega (arith, c.requires.0)) (λ k. omega (arith, c.type_inv.starts k)) (λ t. omega (arith, c.requires.1))
