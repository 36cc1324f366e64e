-- The loop from behind the cycles up stops at the smallest cost that the area stands for.
use Rattle.calls.specs.Area.{stands}
use Rattle.look.proofs.Scan.{Ahead}
use Rattle.look.proofs.find_next.Given as goal

abbrev pub invariant-loop-cost : goal.invariant-loop-cost
invariant-loop-cost l = Ahead (stands l.layout.budget l.area l.block) l.layout.budget l.cycles l.cost
