use Rattle.word.proofs.Bytes.{written}
use Rattle.word.proofs.put.Goals as goal
use mathlib.Core.Path.{ap, ◌∙◌}
use mathlib.Core.List.{List}
use Prim.Native.Nat.{ℕ}
use lib.ListN.{take}

pub returns : goal.returns
returns g c =
    let a = c.args in
    written a.out.now _ a.at g.row.N a.v c.requires.0 c.requires.1 (c.copy_from_slice.ensures.after ∙ ap (λ (l : List ℕ). take g.row.N l) c.to_le_bytes.ensures)
