use mathlib.Core.Path.{sym, ap, ap₂, ◌∙◌}
use Prim.Native.Nat.{ℕ}
use mathlib.Core.List.{List}
use lib.ListN.{get_or}
use Rattle.std.proofs.lemmas.List.{get_or_default, get_or_past}
use Rattle.operation.specs.Verdict.{kind_named}
use Rattle.vm.specs.Kinds.{kinds}
use Rattle.vm.proofs.kind.Goals as goal

pub returns-then-code-lt128 : goal.returns-then-code-lt128
returns-then-code-lt128 c =
    c.from-then-code-lt128.ensures
    ∙ ap₂ (λ (t : List ℕ) (k : ℕ). kind_named (get_or t k 0)) c.table.ensures c.from.ensures
    ∙ ap kind_named (get_or_default kinds c.args.code 0 3 c.if-code-lt128.true)

pub returns-else-code-lt128 : goal.returns-else-code-lt128
returns-else-code-lt128 c = sym (ap kind_named (get_or_past kinds c.args.code 3 c.if-code-lt128.false))
