-- All cells are cleared, the exit's is set, and its bit.
use Rattle.block_cost.proofs.Written.{exit-fits, begun-filling, begun-fair}
use Rattle.block_cost.proofs.OneCost.{mirror-begun}
use Rattle.block_cost.proofs.begin.Goals as goal

pub set_cell-requires-clause-has_cell : goal.set_cell-requires-clause-has_cell
set_cell-requires-clause-has_cell c = exit-fits c.requires.ready c.clear_cells.ensures

pub returns : goal.returns
returns c =
    let l = c.clear_cells.ensures in
    let s = c.set_cell.ensures in
    let S = c.requires.ready in
    let F = begun-fair S l s in
    record { filling = begun-filling S l s; fair = F; mirror = mirror-begun S c.requires.empty l s F.exit c.put.ensures }
