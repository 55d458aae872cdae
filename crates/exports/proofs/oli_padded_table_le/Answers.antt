use mathlib.Core.Path.{sym}
use Rattle.crossing.specs.Words.{words_in}
use mathlib.Core.List.{List}
use Prim.Native.Nat.{ℕ}
use borrow.Author.Rules.{rules}
use Rattle.rules.specs.Answer.{Answer}
use Rattle.rules.specs.Functions.{arena, table_of}
use Rattle.prefix.specs.declared.Prefix.TheVariants.{PaddedToRaw}
use Rattle.exports.specs.Replies.{TablesBytes}
use Rattle.exports.proofs.Tables.{table_out}
use Rattle.exports.proofs.Whole.{either, checked_broken}
use Rattle.exports.proofs.oli_padded_table_le.Goals as goal

pub returns : goal.returns
unfolding table_of
returns c =
    let a = c.args in
    let e = c.table_le.ensures in
    either a.values.now (λ (d : Answer (List ℕ)). TablesBytes d c.table_le.result a.out.now c.table_le.new.out) _
    (λ h.
    let k = e.few h in
    table_out PaddedToRaw (arena a.codes.now (words_in a.values.now) a.records.now) (rw (sym k.numbers_are) (search rules)) k.room k.after_is)
    (λ h. checked_broken a.values.now a.codes.now a.records.now h _)
    e.many
