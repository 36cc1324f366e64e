-- The budgets are put one by one, each lowered.
use Rattle.formats.specs.Versions.{lowered}
use Rattle.put_words.proofs.Put.{Putting}
use Rattle.lowered.proofs.put_less.Given as goal

abbrev pub invariant-loop-place : goal.invariant-loop-place
invariant-loop-place l = Putting l.initial.row 0 (lowered l.handler l.budgets) l.place l.row
