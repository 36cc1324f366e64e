-- The blocks from 3 on, then the start.
use Rattle.weigh.proofs.Rising.{going_start, settled-exit}
use Rattle.weigh.proofs.weigh_cost.Goals as goal

pub loop-block-init : goal.loop-block-init
loop-block-init c = going_start c.requires.kept (settled-exit c.requires.kept.fair c.requires.settled)
