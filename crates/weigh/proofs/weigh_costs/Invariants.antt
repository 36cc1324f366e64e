-- One cost after the other.
use Rattle.graph_row.specs.GraphRow.{graph_in}
use Rattle.weigh.proofs.Rising.{Going}
use Rattle.weigh.proofs.weigh_costs.Given as goal

abbrev pub invariant-loop-cost : goal.invariant-loop-cost
invariant-loop-cost l =
    Going (graph_in l.graph.row.now) l.layout.blocks l.layout.budget l.nexts l.initial.has l.initial.area l.has l.area l.cost 2
