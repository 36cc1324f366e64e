-- Each turn fills one entry more of the row.
use Rattle.look.proofs.Rows.{Filling}
use Rattle.look.proofs.fill_row.Given as goal

abbrev pub invariant-loop-cycles : goal.invariant-loop-cycles
invariant-loop-cycles l = Filling l.area l.layout.budget l.block l.initial.lows l.lows l.last l.cycles
