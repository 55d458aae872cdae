use mathlib.Core.Path.{◌≡◌, ap, ◌∙◌}
use Prim.Native.Nat.{ℕ, ◌/◌}
use lib.ListN.{length, drop}
use Rattle.std.proofs.lemmas.List.{length-take-le, take_at}
use Rattle.rules.specs.Record.{words_at}
use Rattle.rules.proofs.Sizes.{length_words_at}
use Rattle.crossing.specs.Words.{words_in}
use Rattle.crossing.proofs.read_words.Goals as goal

pub returns : goal.returns
unfolding words_in
returns c =
    let a = c.args in
    let s = a.s.now in
    let n = length s / 8 in
    let e : c.read_words.new.words ≡ words_at n s 0 = c.read_words.ensures ∙ ap (λ (k : ℕ). words_at k s 0) (length-take-le n a.work.now c.requires) in
    take_at c.read_words.new.words (drop n a.work.now) n (ap length e ∙ length_words_at n s 0) ∙ e
