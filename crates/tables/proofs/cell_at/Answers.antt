-- `tables::cell_at` meets its contract.
use Rattle.tables.proofs.Places.{code-cell}
use Rattle.tables.proofs.cell_at.Goals as goal

pub returns : goal.returns
returns c = code-cell _ _
