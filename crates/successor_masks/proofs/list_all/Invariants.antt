-- One block after the other.
use Rattle.graph_row.specs.GraphRow.{blocks_in, graph_in}
use Rattle.successor_masks.specs.Nexts.{Nexts}
use Rattle.successor_masks.proofs.list_all.Given as goal

abbrev pub invariant-loop-block : goal.invariant-loop-block
invariant-loop-block l = Nexts (graph_in l.graph.row.now) (blocks_in l.graph.row.now) l.block l.nexts
