use mathlib.Core.Path.{◌≡◌, sym}
use borrow.Author.Rules.{rules}
use Rattle.rules.specs.Functions.{padding_checked}
use Rattle.rules.specs.Answer.{Answer}
use Rattle.exports.specs.Replies.{check_reply}
use Rattle.exports.proofs.Whole.{either, checked_broken}
use Rattle.exports.proofs.oli_padding_le.Goals as goal

pub returns : goal.returns
unfolding padding_checked
returns c =
    let a = c.args in
    let e = c.check_le.ensures in
    either a.values.now (λ (d : Answer Unit). c.check_le.result ≡ check_reply d) _
    (λ h.
    let k = e.few h in
    rw (sym k.shows) (search rules))
    (λ h. checked_broken a.values.now a.codes.now a.records.now h _)
    e.many
