-- One word more than the longest graph sheet that 3 lets pass has: as much of a file as its answer can need.
-- Rests on formats Limits.
use Rattle.std.specs.Prelude.{ℕ, ◌+◌, ◌-◌, ◌*◌}
use Rattle.formats.specs.Limits.{most_blocks, most_edges, word_limit}

-- the longest header that words can say: "0, N, E, the number of budgets", which is a word, and so many budgets
abbrev pub longest_header : ℕ
longest_header = 4 + (word_limit - 1)

-- in words
abbrev pub longer_sheet : ℕ
longer_sheet = longest_header + 2 * most_blocks + 2 * most_edges + 1

-- in bytes
abbrev pub longer_file : ℕ
longer_file = 2 * longer_sheet
