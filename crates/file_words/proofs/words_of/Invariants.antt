-- The words are written one by one; the row is the words so far, then what it held.
use Rattle.file_words.proofs.Filled.{Filled}
use Rattle.file_words.proofs.words_of.Given as goal

abbrev pub invariant-loop-i : goal.invariant-loop-i
invariant-loop-i l = Filled l.bytes l.initial.words l.words l.i
