-- The blocks one by one; each turn writes the line of a marked one, and the rest is due.
use Rattle.unused_lines.proofs.Marked.{MarkedDue}
use Rattle.unused_lines.proofs.write_unused.Given as goal

abbrev pub invariant-loop-block : goal.invariant-loop-block
invariant-loop-block l = MarkedDue l.place l.marks l.initial.text l.text l.end l.block
