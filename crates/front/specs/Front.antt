-- The bounded sheet with which a row begins, and how long a row is that has room for any.
-- Rests on formats Limits and BoundedSheet.
use Rattle.std.specs.Prelude.{List, ℕ, ◌+◌, ◌*◌, take}
use Rattle.formats.specs.Limits.{most_budgets, most_copies, most_bounded_edges}
use Rattle.formats.specs.BoundedSheet.{heading, bounded_length}

-- the most words of a bounded sheet: four, the most budgets and an entry for each, and the records
abbrev pub most_words : ℕ
most_words = 4 + 2 * most_budgets + 3 * most_copies + 2 * most_bounded_edges

-- as many words as the header of a row says
abbrev pub front_sheet : List ℕ → List ℕ
front_sheet row = take (bounded_length (heading row)) row
