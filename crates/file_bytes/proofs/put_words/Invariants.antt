-- The words are written one by one.
use Rattle.formats.specs.File.{word_bytes}
use Rattle.digits.proofs.Items.{Items}
use Rattle.file_bytes.proofs.put_words.Given as goal

abbrev pub invariant-loop-i : goal.invariant-loop-i
invariant-loop-i l = Items word_bytes l.words l.initial.out l.at l.out l.place l.i
