-- The room that a text takes, and the lines of all copies.
-- Rests on base Lists, formats Limits, copy_line Line.
use Rattle.std.specs.Prelude.{List, ℕ, ◌+◌, ◌*◌}
use Rattle.base.specs.Lists.{each, from}
use Rattle.formats.specs.Limits.{most_budgets, most_copies, most_bounded_edges}
use Rattle.copy_line.specs.Line.{line_at}

-- a heading of at most 30 bytes and 4 more for each budget, a copy's line of at most 13 and 5 more for each target
abbrev pub listing_room : ℕ
listing_room = 30 + 4 * most_budgets + 13 * most_copies + 5 * most_bounded_edges

-- `refused`, a space, at most 5 digits, a newline
abbrev pub refusal_room : ℕ
refusal_room = 14

-- the lines of all copies, the listing without its heading: c copies from the word `at` on, behind them f edges
abbrev pub copy_lines : List ℕ → ℕ → ℕ → ℕ → List ℕ
copy_lines s at c f = each (line_at s at c f) (from 1 c)
