-- The loop from behind the cycles up stops at the smallest cost that the area stands for.
use Rattle.std.proofs.Common.{sym, ◌∙◌, arith}
use Rattle.calls.proofs.Area.{lower-cell}
use Rattle.look.proofs.Scan.{ahead, nothing, found, onward}
use Rattle.look.proofs.find_next.Goals as goal

pub loop-cost-init : goal.loop-cost-init
loop-cost-init c = ahead _ _ _

pub is_set-requires-clause-has_cell : goal.is_set-requires-clause-has_cell
is_set-requires-clause-has_cell c = lower-cell _ _ _ _ c.args.area.now (omega arith) c.requires.has_cell

pub returns-then-is_set : goal.returns-then-is_set
returns-then-is_set c = found _ _ _ _ c.loop-cost.invariant (omega arith) (sym c.is_set.ensures ∙ c.if-is_set.true)

pub loop-cost-preserved : goal.loop-cost-preserved
loop-cost-preserved c = onward _ _ _ _ c.loop-cost.invariant (omega arith) (sym c.is_set.ensures ∙ c.if-is_set.false)

pub returns : goal.returns
returns c = nothing _ _ _ _ c.loop-cost.invariant (omega arith)
