use Rattle.crossing.proofs.Copies.{bytes_left}
use Rattle.rules.specs.Lists.{fitted}
use lib.ListN.{length, take}
use Prim.Native.Nat.{ℕ, ◌*◌}
use mathlib.Core.List.{List}
use mathlib.Core.Path.{ap, ◌∙◌}
use Rattle.crossing.proofs.bytes_out.Goals as goal

pub returns : goal.returns
returns c =
    let a = c.args in
    c.zero_after.ensures
    ∙ ap (λ (d : List ℕ). fitted (length d) (take (8 * length a.words.now) d)) c.put_words.ensures
    ∙ bytes_left a.out.now a.words.now c.requires
