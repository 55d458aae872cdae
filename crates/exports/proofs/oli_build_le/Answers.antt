use Rattle.exports.proofs.Builds.{builds_out}
use borrow.Author.Rules.{rules}
use mathlib.Core.Path.{sym, ap, ◌∙◌}
use Rattle.rules.specs.Answer.{Answer}
use Rattle.rules.specs.Record.{Block, no_block}
use Rattle.rules.specs.Functions.{arena, leaves}
use Rattle.exports.specs.Replies.{build_reply, room_bytes, filled_bytes}
use Rattle.exports.proofs.Builds.{built_broken}
use Rattle.exports.proofs.oli_build_le.Goals as goal

pub returns-then-not-few_words : goal.returns-then-not-few_words
unfolding no_block
returns-then-not-few_words c =
    let a = c.args in
    let s = arena a.out_codes.now a.out_values.now a.records.now in
    let d = sym (built_broken a.values.now a.table.now a.codes.now (room_bytes s) (sym c.few_words.ensures ∙ c.if-not-few_words.true)) in
    record { reply = c.from.ensures ∙ ap build_reply d; runs = c.clear.ensures ∙ ap (λ (x : Answer Block). filled_bytes s (leaves no_block x)) d }

pub returns : goal.returns
returns c =
    let a = c.args in
    let h = c.fill_le.ensures in
    builds_out a.values.now a.table.now a.codes.now (sym c.few_words.ensures ∙ c.if-not-few_words.false) (rw (sym h.numbers_are) (search rules)) h.room h.after_is
