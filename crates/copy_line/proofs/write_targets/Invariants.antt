-- The targets are written down the chain; each turn writes the next one, and the rest is due.
use Rattle.copy_line.proofs.Targets.{Going}
use Rattle.copy_line.proofs.write_targets.Given as goal

abbrev pub invariant-loop-left : goal.invariant-loop-left
invariant-loop-left l = Going l.words l.base l.edges l.first l.initial.text l.at l.text l.place l.left l.edge

abbrev pub decreases-loop-left : goal.decreases-loop-left
decreases-loop-left l = l.left
