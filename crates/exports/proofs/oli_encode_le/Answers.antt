use borrow.Author.Rules.{rules}
use Rattle.exports.proofs.Whole.{whole}
use mathlib.Core.Path.{refl, sym, ◌∙◌}
use Rattle.rules.specs.Functions.{written}
use Rattle.exports.proofs.Whole.{encoded_broken}
use Rattle.exports.proofs.oli_encode_le.Goals as goal

pub returns-then-not-few_words : goal.returns-then-not-few_words
unfolding written
returns-then-not-few_words c =
    let a = c.args in
    rw (encoded_broken a.values.now a.codes.now a.records.now (sym c.few_words.ensures ∙ c.if-not-few_words.true) 8 a.table.now _ a.at) (record { reply = c.from.ensures; bytes = refl })

pub returns : goal.returns
returns c =
    let a = c.args in
    rw (whole a.values.now _ (sym c.few_words.ensures ∙ c.if-not-few_words.false), sym c.numbers_le.ensures.shows) (search rules)
