-- The cells that were passed are clear.
use Rattle.tables.proofs.Places.{clear-more}
use Rattle.tables.proofs.next_marked.Goals as goal

pub loop-at-preserved : goal.loop-at-preserved
loop-at-preserved c = clear-more _ _ _ c.loop-at.invariant c.if-marks-at-ne0.false
