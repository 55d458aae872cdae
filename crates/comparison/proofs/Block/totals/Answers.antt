use Rattle.std.proofs.Common.{◌≡◌, ◌/◌, length, rules, arith, ◌∙◌}
use borrow.Author.Tests.{tests}
use Rattle.std.proofs.lemmas.Iterator.{YieldsList-from_map, YieldsList-from_range}
use Rattle.std.proofs.lemmas.Iterator.Consumers.{sum_by_from_yields_List, fits_by_from_yields_list}
use Rattle.std.specs.List.{range_with_len}
use Rattle.rules.specs.Record.{record_size}
use Rattle.rules.specs.Compare.{padding_total}
use Rattle.rules.specs.Functions.{block_in}
use Rattle.comparison.specs.Block.{lying}
use Rattle.comparison.proofs.Blocks.{paddings_at, paddings_all, paddings_few, totals_are}
use Rattle.comparison.proofs.Block.totals.Goals.{After-sum-flagged}
use Rattle.comparison.proofs.Block.totals.Goals as goal

pub sum-flagged-requires-clause-fits : goal.sum-flagged-requires-clause-fits
sum-flagged-requires-clause-fits c =
    let b = c.args.self.now in
    let s = b.records.now in
    let n = length s / record_size in
    fits_by_from_yields_list (paddings_at s) (range_with_len 0 n) c.map.result _
    (YieldsList-from_map _ (paddings_at s) (YieldsList-from_range 0 n n c.map.ensures.source (omega arith)) c.map.ensures.closure (λ x r q k. search (rules, tests)))
    (omega (arith, paddings_few _ _ _ b.taken))

summed : (c : After-sum-flagged) → c.sum-flagged.result ≡ padding_total (block_in (lying c.args.self.now))
summed c =
    let b = c.args.self.now in
    let s = b.records.now in
    let n = length s / record_size in
    sum_by_from_yields_List (paddings_at s) (range_with_len 0 n) c.map.result _ c.sum-flagged.ensures.ran
    (YieldsList-from_map _ (paddings_at s) (YieldsList-from_range 0 n n c.map.ensures.source (omega arith)) c.map.ensures.closure (λ x r q k. search (rules, tests)))
    ∙ paddings_all b.codes.now b.values.now s

pub overflow_sub-result : goal.overflow_sub-result
overflow_sub-result c = omega (arith, summed c, c.args.self.now.taken.paddings)

pub returns : goal.returns
returns c = totals_are _ _ _ _ c.args.self.now.taken (summed c)
