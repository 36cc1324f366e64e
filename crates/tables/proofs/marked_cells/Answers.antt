-- The marked cells among the first cells of the row.
use Rattle.std.proofs.Common.{◌∙◌, arith}
use Rattle.tables.proofs.SetCells.{set-taken}
use Rattle.tables.proofs.marked_cells.Goals as goal

pub returns : goal.returns
returns c = c.new.ensures ∙ set-taken _ _ (omega (arith, c.requires, c.cells.ensures.value)) _ c.cells.ensures.value
