-- The number of the copy that serves v with r cycles left, as it is looked up among the numbers.
-- Rests on base Cells, tables Tables.
use Rattle.std.specs.Prelude.{true, false, List, ℕ, zero, suc, get_or}
use Rattle.base.specs.Cells.{cell_of}
use Rattle.tables.specs.Tables.{marked}

module _ (b : ℕ) (marks numbers : List ℕ) (v : ℕ) where
  -- by an entry of the lows: the number of the copy with that low, 0 where there is none or it is not marked
  unfoldable pub number_by : ℕ → ℕ
  number_by zero = 0
  number_by (suc l) = elim (marked b marks v l) [ true ↦ get_or numbers (cell_of b v l) 0 | false ↦ 0 ]

  -- a marked copy's cell has its number, any other cell the entry of the lows
  unfoldable pub number_in : ℕ → ℕ
  number_in r = elim (marked b marks v r) [ true ↦ get_or numbers (cell_of b v r) 0 | false ↦ number_by (get_or numbers (cell_of b v r) 0) ]
