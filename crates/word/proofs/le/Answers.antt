use mathlib.Core.Path.{◌≡◌, ◌∙◌}
use native.Mathlib.Omega.{arith}
use Rattle.rules.specs.Digits.{le_at}
use Rattle.word.proofs.Bytes.{few_bytes, taken}
use Rattle.word.proofs.le.Goals as goal

pub returns : goal.returns
returns g c =
    let a = c.args in
    let e : c.from_le_bytes.result ≡ le_at g.row.N a.s.now a.at = c.from_le_bytes.ensures ∙ taken a.s.now _ a.at g.row.N c.requires.0 c.requires.1 c.copy_from_slice.ensures.after in
    (e, rw e (few_bytes g.row.N a.s.now a.at (λ m. omega (arith, c.type_inv.s m))))
