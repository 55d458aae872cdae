use mathlib.Core.Path.{◌≡◌, ap, ◌∙◌}
use native.Mathlib.Omega.{arith}
use Rattle.std.proofs.lemmas.Grind.{common_steps}
use Rattle.std.specs.Prelude.{Ok, IsErrAnd}
use Rattle.rules.specs.Record.{Block}
use Rattle.rules.specs.Compare.{blocks_apart}
use Rattle.rules.specs.Functions.{Arena, block_in}
use Rattle.comparison.specs.Block.{lying}
use Rattle.comparison.specs.declared.Refused.TheVariants.{Second}
use Rattle.comparison.specs.Replies.{room_for}
use Rattle.comparison.specs.Model.{answer_in}
use Rattle.comparison.proofs.Ways.{second_written, too_many, enough, written_as, taken_begins, goes_on, emptied}
use Rattle.comparison.proofs.Block.compare.Goals as goal

pub returns-in_err-made-clause-written : goal.returns-in_err-made-clause-written
returns-in_err-made-clause-written c =
    let f : IsErrAnd c.decode.result (λ e. IsErrAnd c.from_residual.result (λ y. y ≡ Second e)) = grind (arith, common_steps) in
    second_written _ _ _ _ _ _ c.decode.ensures _ _ _ f

pub at_front-block-requires : goal.at_front-block-requires
at_front-block-requires c =
    let f : c.decode.result ≡ Ok c.in_ok-made.made = grind (arith, common_steps) in
    taken_begins _ _ _ _ _ _ c.decode.ensures _ f

pub empty-requires : goal.empty-requires
empty-requires c =
    let f : c.decode.result ≡ Ok c.in_ok-made.made = grind (arith, common_steps) in
    let x = taken_begins _ _ _ _ _ _ c.decode.ensures _ f in
    (x.codes, x.values, x.records)

pub returns-then-report-entries : goal.returns-then-report-entries
returns-then-report-entries c =
    let f : c.decode.result ≡ Ok c.in_ok-made.made = grind (arith, common_steps) in
    let before = c.args.report.now in
    let g = λ (b : Block). answer_in (room_for before) (blocks_apart (block_in (lying c.args.self.now)) b) in
    let same = ap (λ (a : Arena). g (block_in a)) c.at_front-block.ensures ∙ goes_on _ _ _ _ _ _ c.decode.ensures _ f 2 g in
    let w = too_many _ before _ _ c.report-entries.ensures.count.0 c.report-entries.ensures.run (omega arith) in
    record { written = written_as _ _ _ _ same w; room = emptied _ _ _ _ _ _ c.decode.ensures _ f _ c.empty.ensures }

pub returns : goal.returns
returns c =
    let f : c.decode.result ≡ Ok c.in_ok-made.made = grind (arith, common_steps) in
    let before = c.args.report.now in
    let g = λ (b : Block). answer_in (room_for before) (blocks_apart (block_in (lying c.args.self.now)) b) in
    let same = ap (λ (a : Arena). g (block_in a)) c.at_front-block.ensures ∙ goes_on _ _ _ _ _ _ c.decode.ensures _ f 2 g in
    let w = enough _ before _ _ c.report-entries.ensures.count.0 c.report-entries.ensures.run (omega arith) in
    record { written = written_as _ _ _ _ same w; room = emptied _ _ _ _ _ _ c.decode.ensures _ f _ c.empty.ensures }
