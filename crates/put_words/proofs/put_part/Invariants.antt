-- The part is put word by word.
use Rattle.put_words.proofs.Put.{Putting}
use Rattle.put_words.proofs.put_part.Given as goal

abbrev pub invariant-loop-i : goal.invariant-loop-i
invariant-loop-i l = Putting l.initial.out l.at l.part l.i l.out
