-- The bits of the eight cells together are none, so each cell's are.
use Rattle.std.proofs.Common.{eqb-true}
use Rattle.tables.proofs.Places.{clear-eight}
use Rattle.tables.proofs.eight_clear.Goals as goal

pub returns : goal.returns
returns c e = clear-eight c.args.marks.now c.args.at (eqb-true _ 0 e)
