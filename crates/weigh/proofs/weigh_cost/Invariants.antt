-- The blocks from 3 on, then the start.
use Rattle.graph_row.specs.GraphRow.{graph_in}
use Rattle.weigh.proofs.Rising.{Going}
use Rattle.weigh.proofs.weigh_cost.Given as goal

abbrev pub invariant-loop-block : goal.invariant-loop-block
invariant-loop-block l =
    Going (graph_in l.graph.row.now) l.layout.blocks l.layout.budget l.nexts l.initial.has l.initial.area l.has l.area l.cost l.block
