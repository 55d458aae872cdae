use Rattle.std.proofs.Common.{◌+◌, ◌*◌, length, sym, ◌∙◌, add-zero, arith}
use native.Mathlib.Nat.{sub-zero}
use Rattle.rules.proofs.Runs.{sets_all}
use Rattle.rules.proofs.Sizes.{length_words_at}
use Rattle.rules.proofs.Loads.{words_turn, words_end}
use Rattle.rules.specs.Record.{words_at}
use Rattle.word.proofs.read_words.Goals as goal

pub loop-i-init : goal.loop-i-init
loop-i-init c =
    let a = c.args in
    let n = length a.words.now in
    rw (sub-zero, add-zero) (sets_all a.words.now (words_at n a.s.now a.at) (length_words_at n a.s.now a.at))

pub loop-i-preserved : goal.loop-i-preserved
loop-i-preserved c =
    let l = c.loop-i in
    let a = c.args in
    rw c.le.ensures.0 (words_turn l.words a.s.now (length a.words.now) a.at l.i (omega arith) ∙ l.invariant)

pub returns : goal.returns
returns c =
    let l = c.loop-i in
    let a = c.args in
    sym (words_end l.words a.s.now (length a.words.now) l.i l.i (a.at + 8 * l.i) (omega arith)) ∙ l.invariant
