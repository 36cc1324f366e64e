-- Each successor is put into the block's mask.
use Rattle.std.proofs.Common.{drop}
use Rattle.graph_row.specs.GraphRow.{blocks_in, graph_in}
use Rattle.successor_masks.proofs.Successors.{Listed}
use Rattle.successor_masks.proofs.list_block.Given as goal

abbrev pub invariant-loop-target : goal.invariant-loop-target
invariant-loop-target l =
    Listed (graph_in l.graph.row.now) (blocks_in l.graph.row.now) l.block l.initial.nexts l.nexts (drop l.target-index ((graph_in l.graph.row.now).next l.block))
