-- The cells that were passed are clear.
use Rattle.tables.specs.Scan.{ClearFrom}
use Rattle.tables.proofs.next_marked.Given as goal

abbrev pub invariant-loop-at : goal.invariant-loop-at
invariant-loop-at l = ClearFrom l.marks l.from l.at
