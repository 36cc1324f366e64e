-- Each turn takes the mark of one copy's block.
use Rattle.formats.specs.Words.{field}
use Rattle.unused.proofs.Unmarking.{Unmarking}
use Rattle.unused.proofs.unmark_copies.Given as goal

abbrev pub invariant-loop-copy : goal.invariant-loop-copy
invariant-loop-copy l = Unmarking (λ i. field l.sheet l.at 3 i 0) l.copies l.initial.marks l.marks l.copy
