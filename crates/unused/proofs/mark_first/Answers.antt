-- Each turn writes one mark.
use Rattle.unused.proofs.Filling.{written, onward}
use Rattle.unused.proofs.mark_first.Goals as goal

pub loop-before-preserved : goal.loop-before-preserved
loop-before-preserved c = onward _ _ c.loop-before.invariant c.loop-before-test.true (written _ c.from.ensures)
