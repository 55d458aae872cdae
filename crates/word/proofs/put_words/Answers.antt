use Rattle.std.proofs.Common.{◌+◌, ◌*◌, sym, ◌∙◌, arith}
use Rattle.rules.proofs.Loads.{stored_turn, stored_end}
use Rattle.word.proofs.put_words.Goals as goal

pub loop-i-preserved : goal.loop-i-preserved
loop-i-preserved c =
    let a = c.args in
    let l = c.loop-i in
    rw c.put.ensures (stored_turn a.words.now l.i l.out a.at (omega arith) ∙ l.invariant)

pub returns : goal.returns
returns c =
    let a = c.args in
    let l = c.loop-i in
    sym (stored_end a.words.now l.i l.out (a.at + 8 * l.i) (omega arith)) ∙ l.invariant
