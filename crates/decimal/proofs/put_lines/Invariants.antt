-- The lines are written one by one; the rest is due.
use Rattle.decimal.proofs.Lines.{LinesDue}
use Rattle.decimal.proofs.put_lines.Given as goal

abbrev pub invariant-loop-left : goal.invariant-loop-left
invariant-loop-left l = LinesDue l.words l.count l.width l.initial.text l.at l.text l.place l.first l.left

abbrev pub decreases-loop-left : goal.decreases-loop-left
decreases-loop-left l = l.left
