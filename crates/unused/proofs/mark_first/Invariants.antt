-- Each turn writes one mark.
use Rattle.unused.proofs.Filling.{Filling}
use Rattle.unused.proofs.mark_first.Given as goal

abbrev pub invariant-loop-before : goal.invariant-loop-before
invariant-loop-before l = Filling l.blocks l.marks l.before
