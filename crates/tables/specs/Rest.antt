-- What an iteration over the marked cells of a row has left.
-- Rests on specs Scan.
use Rattle.std.specs.Prelude.{List, ℕ, ◌-◌, length}
use Rattle.tables.specs.Scan.{set_from}
use Rattle.tables.specs.declared.marked.MarkedCells.{MarkedCells}

abbrev pub rest : MarkedCells → List ℕ
rest cells = set_from cells.marks.now cells.from (length cells.marks.now - cells.from)
