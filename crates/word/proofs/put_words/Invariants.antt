use Rattle.std.proofs.Common.{◌≡◌, ◌+◌, ◌*◌, drop}
use lib.Seq.{sets}
use Rattle.rules.specs.Record.{word_bytes}
use Rattle.word.proofs.put_words.Given as goal

abbrev pub invariant-loop-i : goal.invariant-loop-i
invariant-loop-i l = sets l.out (l.at + 8 * l.i) (word_bytes (drop l.i l.words)) ≡ sets l.initial.out l.at (word_bytes l.words)
