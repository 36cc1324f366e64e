-- Words that stand in a row, from a place on: their number and the place, and that they lie inside. Where a word stands in memory.
-- Rests on formats BoundedSheet.
use Rattle.std.specs.Prelude.{◌≡◌, List, ℕ, ◌+◌, ◌-◌, ◌*◌, ◌≤◌, length, take, drop}
use Rattle.formats.specs.BoundedSheet.{Heading, edges_at, first_at, targets_at, edge_records}

pub record Placed (row : List ℕ) (start size from : ℕ) (words : List ℕ) : Type 0 where
  pub is-start : start ≡ from
  pub is-size : size ≡ length words
  pub inside : start + size ≤ length row
  pub are_words : take size (drop start row) ≡ words

-- the edge records of copy i, behind any header
abbrev pub PlacedRecords : Heading → List ℕ → ℕ → ℕ → ℕ → Type 0
PlacedRecords h s i start size =
    Placed s start size (edges_at h + 2 * (first_at h s i - 1)) (edge_records (first_at h s i) (targets_at h s i))

-- a place in memory, a block and a byte of it, n words further on
abbrev pub words_on : ℕ × ℕ → ℕ → ℕ × ℕ
words_on p n = (p.0, n * 2 + p.1)
