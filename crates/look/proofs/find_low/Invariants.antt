-- The loop from the cycles down stops at the largest cost that the area stands for.
use Rattle.calls.specs.Area.{stands}
use Rattle.look.proofs.Scan.{Left}
use Rattle.look.proofs.find_low.Given as goal

abbrev pub invariant-loop-cost : goal.invariant-loop-cost
invariant-loop-cost l = Left (stands l.layout.budget l.area l.block) l.cycles l.cost
