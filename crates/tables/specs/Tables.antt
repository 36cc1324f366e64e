-- What the rows stand for that a build keeps beside the work area: an entry for each block 1 to n and each number of cycles 0 to b, placed as
-- cells. Rests on base Cells and Copy, theory Completions and Copies, calls Area.
use Rattle.std.specs.Prelude.{◌≡◌, Bool, true, false, List, ℕ, ◌≤◌, length, get_or}
use Rattle.std.proofs.Math.Option.{Option}
use Rattle.base.specs.Lists.{option_of, keep}
use Rattle.base.specs.Cells.{cell_of, cell_count, is_set}
use Rattle.base.specs.Copy.{Copy, copy_of, number_from}
use Rattle.theory.specs.Completions.{LookUp, look_up}
use Rattle.theory.specs.Copies.{candidates}
use Rattle.calls.specs.Area.{stands}

-- THE LOOK-UP of v and r, read off a work area with the costs up to b: the largest of v's costs at or below r, and the smallest above it
abbrev pub look_in : ℕ → List ℕ → ℕ → ℕ → LookUp
look_in b area v r = look_up (stands b area v) b r

abbrev pub low_in : ℕ → List ℕ → ℕ → ℕ → Option ℕ
low_in b area v r = (look_in b area v r).low

abbrev pub next_in : ℕ → List ℕ → ℕ → ℕ → Option ℕ
next_in b area v r = (look_in b area v r).next

-- MARKS: whether the copy of v with the low l is marked
unfoldable pub marked : ℕ → List ℕ → ℕ → ℕ → Bool
marked b marks v l = is_set marks (cell_of b v l)

-- the copies that are marked, by block and then low
unfoldable pub marked_copies : ℕ → ℕ → List ℕ → List Copy
marked_copies n b marks = keep (λ c. marked b marks c.block c.low) (candidates n b)

-- THE ROWS of a look-up f
module _ (f : ℕ → ℕ → Option ℕ) (n b : ℕ) where
  -- LOWS: the entry of v and r is one more than what it gives, 0 for none
  pub record Lows (lows : List ℕ) : Type 0 where
    pub room : cell_count n b ≤ length lows
    pub cells : (v r : ℕ) → 1 ≤ v → v ≤ n → r ≤ b → option_of (get_or lows (cell_of b v r) 0) ≡ f v r

  -- NUMBERS: the entry of a marked copy is its number among them, and every other entry is that of the lows
  pub record Numbers (marks numbers : List ℕ) : Type 0 where
    pub room : cell_count n b ≤ length numbers
    pub copies : (v l : ℕ) → 1 ≤ v → v ≤ n → l ≤ b → marked b marks v l ≡ true
        → get_or numbers (cell_of b v l) 0 ≡ number_from 1 (copy_of v l) (marked_copies n b marks)
    pub others : (v r : ℕ) → 1 ≤ v → v ≤ n → r ≤ b → marked b marks v r ≡ false → option_of (get_or numbers (cell_of b v r) 0) ≡ f v r
