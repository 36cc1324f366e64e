-- Each turn fills the row of one block more.
use Rattle.look.proofs.Rows.{AllFilled}
use Rattle.look.proofs.fill_lows.Given as goal

abbrev pub invariant-loop-block : goal.invariant-loop-block
invariant-loop-block l = AllFilled l.area l.layout.blocks l.layout.budget l.initial.lows l.lows l.block
