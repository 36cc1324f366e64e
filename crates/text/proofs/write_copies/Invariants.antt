-- The copies' lines one by one; each turn writes the next one, and the rest is due.
use Rattle.copy_line.specs.Line.{line_at}
use Rattle.digits.proofs.Counted.{PartsDue}
use Rattle.text.proofs.write_copies.Given as goal

abbrev pub invariant-loop-copy : goal.invariant-loop-copy
invariant-loop-copy l = PartsDue (line_at l.words l.start l.copies l.edges) l.copies l.initial.text l.at l.text l.place l.copy
