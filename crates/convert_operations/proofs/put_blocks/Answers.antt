-- Block by block: its cycles, its first edge, the two words.
use Rattle.std.proofs.Common.{arith}
use Rattle.convert_operations.proofs.Blocks.{placing, placing-on}
use Rattle.convert_operations.proofs.put_blocks.Goals as goal

pub loop-block-init : goal.loop-block-init
loop-block-init c = placing c.requires.room

pub loop-block-preserved : goal.loop-block-preserved
loop-block-preserved c =
    placing-on c.loop-block.invariant (omega (arith, c.loop-block-test.true)) c.block_cycles-cost.ensures.0 c.first_edge-first.ensures.0
    c.put_array.ensures
