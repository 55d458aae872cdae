use mathlib.Core.Path.{◌≡◌, ◌∙◌}
use Rattle.std.specs.Prelude.{count_by}
use Rattle.std.proofs.Common.{rules}
use Rattle.commitment.proofs.Numbers.{is_placed, counted}
use Rattle.commitment.proofs.Group.immediates.Goals as goal

pub returns-clause-count : goal.returns-clause-count
returns-clause-count c =
    let a = c.args in
    let e : c.count.result ≡ count_by (is_placed a.table.now) a.self.codes.now = search rules in
    e ∙ counted _ _ _ a.self.same
