-- The cycles of a block's operations, by its chain.
use Rattle.convert_operations.proofs.Sums.{sum-whole}
use Rattle.convert_operations.proofs.block_cycles.Goals as goal

pub returns : goal.returns
returns c =
    let i = c.requires.block_inside in
    sum-whole c.requires.listed _ i.0 i.1 c.sum_cycles.ensures c.operations.ensures.value
