-- The work area: a byte for each block and each cost up to the budget, block by block (document 01, behind the tables of refusals).
-- Rests on base Lists and Cells, theory Completions. Any number of blocks, any budget.
use Rattle.std.specs.Prelude.{◌≡◌, Bool, true, false, List, map, ◌++◌, ℕ, suc, ◌≤◌, ◌<◌, length, get_or, drop, set, replicate}
use Rattle.base.specs.Lists.{each, from}
use Rattle.base.specs.Cells.{cell_of, cell_count, is_set}
use Rattle.theory.specs.Completions.{Graph, completes}

-- the bytes that an area takes, "N × (B + 1)": one for each cell
unfoldable pub area_size : ℕ → ℕ → ℕ
area_size n b = cell_count n b

-- which of the blocks 1 to n have which of the costs 0 to b as a completion cost
unfoldable pub marks : Graph → ℕ → ℕ → List Bool
marks g n b = each (λ v. map (completes g v) (from 0 (suc b))) (from 1 n)

-- "1 where that block has that completion cost, else 0"
unfoldable pub byte_of : Bool → ℕ
byte_of true = 1
byte_of false = 0

unfoldable pub bytes : List Bool → List ℕ
bytes ms = map byte_of ms

-- a work area that was filled; "the rest is untouched"
unfoldable pub filled : Graph → ℕ → ℕ → List ℕ → List ℕ
filled g n b area = bytes (marks g n b) ++ drop (area_size n b) area

-- WHICH COSTS AN AREA STANDS FOR: whether block v has the cost c, by "its byte at (block − 1) × (B + 1) + cost"
unfoldable pub stands : ℕ → List ℕ → ℕ → ℕ → Bool
stands b area v c = is_set area (cell_of b v c)

-- the cell at a place lies in an area
abbrev pub HasCell : List ℕ → ℕ → Type 0
HasCell area i = i < length area

-- an area with one cell more that is set
unfoldable pub with_cell : List ℕ → ℕ → List ℕ
with_cell area i = set area i 1

-- an area of which no cell is set; the rest is untouched
unfoldable pub cleared : ℕ → ℕ → List ℕ → List ℕ
cleared n b area = replicate (area_size n b) 0 ++ drop (area_size n b) area

-- WHAT A FILLING KEEPS: what is made of an area by clearing its cells and then setting some has its length, the bytes of the cells are 0 or 1,
-- and the rest is untouched
pub record Filling (n b : ℕ) (first area : List ℕ) : Type 0 where
  pub same : length area ≡ length first
  pub bits : (i : ℕ) → i < area_size n b → get_or area i 0 ≤ 1
  pub rest : (i : ℕ) → area_size n b ≤ i → get_or area i 0 ≡ get_or first i 0

-- an area that stands for the completion costs up to b of the blocks 1 to n
pub record Table (g : Graph) (n b : ℕ) (area : List ℕ) : Type 0 where
  pub room : area_size n b ≤ length area
  pub cells : (v c : ℕ) → 1 ≤ v → v ≤ n → c ≤ b → stands b area v c ≡ completes g v c
