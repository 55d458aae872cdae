use Rattle.std.proofs.Common.{ℕ, Bool, true, ◌&&◌, leb, ◌∙◌, rules}
use borrow.Author.Tests.{tests}
use Rattle.std.proofs.lemmas.Iterator.{YieldsList-from_slice}
use Rattle.std.proofs.lemmas.Iterator.Consumers.{fold_from_yields_List}
use Rattle.op_batch.proofs.Bytes.{fold_every}
use Rattle.op_batch.proofs.flags_right.Goals as goal

pub returns : goal.returns
returns c =
    fold_from_yields_List _ (λ (a : Bool) (x : ℕ). a && leb x 1) true _ c.fold.ensures.ran (YieldsList-from_slice c.args.flags.now cc) (λ a x b q k. search (rules, tests))
    ∙ fold_every (λ (f : ℕ). leb f 1) true c.args.flags.now
