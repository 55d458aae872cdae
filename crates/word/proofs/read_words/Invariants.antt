use Rattle.std.proofs.Common.{◌≡◌, ◌+◌, ◌-◌, ◌*◌, length}
use lib.Seq.{sets}
use Rattle.rules.specs.Record.{words_at}
use Rattle.word.proofs.read_words.Given as goal

abbrev pub invariant-loop-i : goal.invariant-loop-i
invariant-loop-i l = sets l.words l.i (words_at (length l.initial.words - l.i) l.s (l.at + 8 * l.i)) ≡ words_at (length l.initial.words) l.s l.at
