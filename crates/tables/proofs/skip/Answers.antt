-- The cells that were passed are clear.
use Rattle.std.proofs.Common.{arith}
use Rattle.tables.proofs.Places.{clear_none, clear_both}
use Rattle.tables.proofs.skip.Goals as goal

pub loop-k-init : goal.loop-k-init
loop-k-init c = clear_none _ _ _ (omega arith)

pub loop-k-preserved : goal.loop-k-preserved
loop-k-preserved c = clear_both _ _ _ c.loop-k.invariant (c.eight_clear.ensures c.if-not-eight_clear.false) (omega arith)
