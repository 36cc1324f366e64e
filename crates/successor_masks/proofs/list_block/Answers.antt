-- Each successor is put into the block's mask.
use Rattle.std.proofs.Common.{arith}
use Rattle.successor_masks.proofs.Flat.{joined, item-left}
use Rattle.successor_masks.proofs.Successors.{listed_next}
use Rattle.successor_masks.proofs.list_block.Goals as goal

pub put-requires : goal.put-requires
put-requires c =
    let G = joined c.args.graph.flat in
    let q = G.target _ _ (item-left _ _ c.successors-targets.ensures c.loop-target.target-index (omega arith)).1 in
    (omega (arith, q.0), omega (arith, q.1, G.blocks.1), omega (arith, c.loop-target.invariant.below.room, c.requires.inside.1))

pub loop-target-preserved : goal.loop-target-preserved
loop-target-preserved c =
    let i = item-left _ _ c.successors-targets.ensures c.loop-target.target-index (omega arith) in
    listed_next (joined c.args.graph.flat) c.loop-target.target-index c.loop-target.invariant i.0 i.1 c.put.ensures
