-- Each entry by the look-up of its budget.
use Rattle.put_words.proofs.Put.{Putting}
use Rattle.heading_words.specs.Entries.{entries_in}
use Rattle.heading_words.proofs.put_entries.Given as goal

abbrev pub invariant-loop-i : goal.invariant-loop-i
invariant-loop-i l = Putting l.initial.output l.at (entries_in l.numbered l.budgets) l.i l.output
