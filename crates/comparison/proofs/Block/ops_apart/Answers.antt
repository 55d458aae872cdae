use Rattle.std.proofs.Common.{◌∙◌, rules}
use borrow.Author.Tests.{tests}
use Rattle.std.proofs.lemmas.Iterator.{YieldsList-from_slice, YieldsList-from_zip}
use Rattle.std.proofs.lemmas.Iterator.Adapters.{position_from-zero}
use Rattle.std.proofs.lemmas.Iterator.Consumers.{YieldsList-at}
use Rattle.std.proofs.lemmas.Iterator.Search.{position_from_yields_List}
use Rattle.comparison.proofs.Places.{differ, pairs, cut, cut_part, parts_apart}
use Rattle.comparison.proofs.Block.ops_apart.Goals as goal

pub returns : goal.returns
returns c =
    let a = c.args in
    let x = a.self.now in
    let y = a.other.now in
    let cs = cut a.n x.codes.now a.from in
    let vs = cut a.n x.values.now a.from in
    let ds = cut a.n y.codes.now a.at in
    let us = cut a.n y.values.now a.at in
    let p = cut_part a.n x.codes.now a.from c.iter.result.rest.now c.iter.ensures.rest in
    let q = cut_part a.n x.values.now a.from c.zip-mine.result.b.rest.now cc in
    let r = cut_part a.n y.codes.now a.at c.iter-2.result.rest.now c.iter-2.ensures.rest in
    let t = cut_part a.n y.values.now a.at c.zip-theirs.result.b.rest.now cc in
    position_from_yields_List differ c.position.new.self _ _ c.position.ensures.ran
    (YieldsList-from_zip
    (YieldsList-at c.zip.ensures.first (YieldsList-from_zip (YieldsList-at c.zip-mine.ensures.first (YieldsList-from_slice cs p)) (YieldsList-from_slice vs q)))
    (YieldsList-at c.zip.ensures.second (YieldsList-from_zip (YieldsList-at c.zip-theirs.ensures.first (YieldsList-from_slice ds r)) (YieldsList-from_slice us t))))
    (λ p b q k. search (rules, tests))
    ∙ position_from-zero differ (pairs cs vs ds us)
    ∙ parts_apart a.n a.from a.at x.codes.now x.values.now y.codes.now y.values.now
