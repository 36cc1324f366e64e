-- The limits of document 01, each by one name: graph sheet "Limits: N 2 to 128, E 1 to 512, B 0 to 500", bounded sheet "C 2 to 4,096, F 1 to 8,192".
-- Rests on nothing.
use Rattle.std.specs.Prelude.{ℕ, suc, ◌*◌}

-- 1: "fewer than 3 words"
abbrev pub least_words : ℕ
least_words = 3

-- N, the number of blocks
abbrev pub least_blocks : ℕ
least_blocks = 2

abbrev pub most_blocks : ℕ
most_blocks = 128

-- E, the number of edges
abbrev pub least_edges : ℕ
least_edges = 1

abbrev pub most_edges : ℕ
most_edges = 512

-- B, the budget
abbrev pub most_budget : ℕ
most_budget = 500

-- the number of budgets (document 02, K2: "up to four budgets")
abbrev pub least_budgets : ℕ
least_budgets = 1

abbrev pub most_budgets : ℕ
most_budgets = 4

-- N × (B + 1): a cell for each block and each number of cycles
abbrev pub most_cells : ℕ
most_cells = most_blocks * suc most_budget

-- C, the number of copies
abbrev pub least_copies : ℕ
least_copies = 2

abbrev pub most_copies : ℕ
most_copies = 4096

-- F, the number of a bounded sheet's edges
abbrev pub least_bounded_edges : ℕ
least_bounded_edges = 1

abbrev pub most_bounded_edges : ℕ
most_bounded_edges = 8192

-- one more than the largest word
abbrev pub word_limit : ℕ
word_limit = 65536

-- the sheets of a catalogue (document 02, K1: "up to 200 graph sheets")
abbrev pub most_sheets : ℕ
most_sheets = 200

-- the records of an operation sheet, and the largest operation (document 02, K4: "at most 4,096")
abbrev pub most_operations : ℕ
most_operations = 4096

abbrev pub most_operation : ℕ
most_operation = 15
