-- One block's row: its entry at r is the largest cost at or below r that the work area has for the block.
-- Rests on base Lists and Cells, theory Completions, calls Area.
use Rattle.std.specs.Prelude.{◌≡◌, Bool, true, false, List, ℕ, suc, ◌≤◌, length, get_or}
use Rattle.theory.specs.Completions.{largest}
use Rattle.base.specs.Cells.{cell_of}
use Rattle.calls.specs.Area.{stands}
use Rattle.base.specs.Lists.{option_of}

-- one more than the last cost that is set, after the cost r
unfoldable pub latest : ℕ → ℕ → Bool → ℕ
latest last r true = suc r
latest last r false = last

-- the row of v is filled
unfoldable pub Filled : List ℕ → ℕ → ℕ → List ℕ → Type 0
Filled area b v lows = (r : ℕ) → r ≤ b → option_of (get_or lows (cell_of b v r) 0) ≡ largest (stands b area v) r

-- and the rows of other blocks are kept
pub record RowFilled (area : List ℕ) (b v : ℕ) (before after : List ℕ) : Type 0 where
  pub size : length after ≡ length before
  pub row : Filled area b v after
  pub kept : (u : ℕ) → 1 ≤ u → (u ≡ v → ⊥) → Filled area b u before → Filled area b u after
