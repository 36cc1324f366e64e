-- The loop from the cycles down stops at the largest cost that the area stands for.
use Rattle.std.proofs.Common.{sym, ◌∙◌, ◌-◌, arith}
use Rattle.calls.proofs.Area.{lower-cell}
use Rattle.look.proofs.Scan.{begin, out, hit, miss}
use Rattle.look.proofs.find_low.Goals as goal

pub loop-cost-init : goal.loop-cost-init
loop-cost-init c = begin _ _

pub is_set-requires-clause-has_cell : goal.is_set-requires-clause-has_cell
is_set-requires-clause-has_cell c = lower-cell _ _ _ _ c.args.area.now (omega arith) c.requires.has_cell

pub returns-then-is_set : goal.returns-then-is_set
returns-then-is_set c = hit _ _ _ c.loop-cost.invariant (omega arith) (sym c.is_set.ensures ∙ c.if-is_set.true)

pub loop-cost-preserved : goal.loop-cost-preserved
loop-cost-preserved c = miss _ _ _ c.loop-cost.invariant (omega arith) (sym c.is_set.ensures ∙ c.if-is_set.false)

pub returns : goal.returns
returns c = out _ _ _ c.loop-cost.invariant (omega arith)
