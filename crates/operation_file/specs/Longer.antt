-- As much of an operation sheet's file as its answer can need, and the room that a graph sheet takes.
-- Rests on formats Limits, file_words Longer.
use Rattle.std.specs.Prelude.{ℕ, ◌+◌, ◌-◌, ◌*◌}
use Rattle.formats.specs.Limits.{most_blocks, most_edges, most_budgets, word_limit}
use Rattle.file_words.specs.Longer.{longer_sheet}

-- one word more than the longest operation sheet that 3 lets pass: the graph sheet's, and the most records that a word can count
abbrev pub longer_operations : ℕ
longer_operations = longer_sheet + 1 + 2 * (word_limit - 1)

-- in bytes
abbrev pub longer_file : ℕ
longer_file = 2 * longer_operations

-- the most words of a graph sheet that is accepted: four, the most budgets, and the records
abbrev pub most_graph : ℕ
most_graph = 4 + most_budgets + 2 * most_blocks + 2 * most_edges

-- in bytes
abbrev pub graph_file : ℕ
graph_file = 2 * most_graph
