-- The header, the blocks and the edges, one behind the other.
use Rattle.convert_operations.proofs.Graph.{graph-put}
use Rattle.convert_operations.proofs.put_graph.Goals as goal

pub returns : goal.returns
returns c = graph-put c.args.out.now c.requires.listed c.put_part.ensures c.put_blocks.ensures c.put_part-2.ensures
