-- The line of a copy by the numbers that it shows, and by the records of a sheet.
-- Rests on base Lists, formats Words and Listing, digits Spaced.
use Rattle.std.specs.Prelude.{List, [], ◌∷◌, ◌++◌, ℕ, suc, ◌+◌, ◌*◌, ◌≤◌, length}
use Rattle.base.specs.Lists.{each}
use Rattle.formats.specs.Words.{field, Inside, next_from, targets_from}
use Rattle.formats.specs.Listing.{decimal}
use Rattle.digits.specs.Spaced.{spaced}

-- a copy's line: its number, its block, its low and its targets
unfoldable pub copy_text : ℕ → ℕ → ℕ → List ℕ → List ℕ
copy_text i v l ts = decimal i ++ (spaced v ++ (spaced l ++ (each spaced ts ++ (10 ∷ []))))

-- the targets of a chain of the edges 1 to m, whose records stand from the word `base` on
abbrev pub targets_text : List ℕ → ℕ → ℕ → ℕ → List ℕ
targets_text s base m first = each spaced (targets_from s base (suc m) first)

-- THE RECORDS: c copies from the word `at` on, behind them f edges
module _ (s : List ℕ) (at c f : ℕ) where
  -- they are there, and no chain of a copy leaves them
  pub record Readable : Type 0 where
    pub size : at + 3 * c + 2 * f ≤ length s
    pub inside : (i : ℕ) → 1 ≤ i → i ≤ c → Inside (next_from s (at + 3 * c)) f (suc f) (field s at 3 i 2)

  -- the line of copy i
  abbrev pub line_at : ℕ → List ℕ
  line_at i = copy_text i (field s at 3 i 0) (field s at 3 i 1) (targets_from s (at + 3 * c) (suc f) (field s at 3 i 2))
