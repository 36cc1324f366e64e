-- The cells of a row in order: the block and the low of a cell, and the next cell that is marked.
-- Rests on base Lists, Cells and Copy.
use Rattle.std.specs.Prelude.{◌≡◌, List, ℕ, ◌+◌, ◌/◌, ◌%◌, ◌≤◌, ◌<◌, get_or}
use Rattle.base.specs.Lists.{keep, from}
use Rattle.base.specs.Cells.{cell_of, is_set}
use Rattle.base.specs.Copy.{Copy, copy_of}

-- the cell at i is that of the block v and the low l
pub record IsCell (b i v l : ℕ) : Type 0 where
  pub block : 1 ≤ v
  pub low : l ≤ b
  pub place : i ≡ cell_of b v l

-- the cells from i on are clear, those from j on left aside
unfoldable pub ClearFrom : List ℕ → ℕ → ℕ → Type 0
ClearFrom marks i j = (x : ℕ) → i ≤ x → x < j → get_or marks x 0 ≡ 0

-- r is the first marked cell from i on, or size where there is none
pub record NextMarked (marks : List ℕ) (size i r : ℕ) : Type 0 where
  pub from : i ≤ r
  pub upto : r ≤ size
  pub clear : ClearFrom marks i r
  pub set : r < size → get_or marks r 0 ≡ 0 → ⊥

-- those of the k cells from i on that are set, in order
unfoldable pub set_from : List ℕ → ℕ → ℕ → List ℕ
set_from marks i k = keep (is_set marks) (from i k)

-- the copy of the cell at i
abbrev pub copy_at : ℕ → ℕ → Copy
copy_at b i = copy_of (i / (b + 1) + 1) (i % (b + 1))
