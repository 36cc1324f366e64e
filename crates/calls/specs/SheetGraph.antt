-- THE JOIN of formats and theory: the graph that a graph sheet gives, its copies and its bounded sheet, and the graph that a bounded sheet gives.
-- Rests on theory Completions, Copies and Walks, formats Versions, GraphSheet, BoundedSheet and Rule11.
use Rattle.std.specs.Prelude.{Bool, List, map, ℕ}
use Rattle.base.specs.Lists.{nth}
use Rattle.base.specs.Copy.{Copy}
use Rattle.theory.specs.Completions.{Graph}
use Rattle.theory.specs.Copies.{copy_for, targets, target_number}
use Rattle.theory.specs.Tasks.{Task, task_with, copies_in}
use Rattle.theory.specs.Walks.{Bounded}
use Rattle.formats.specs.Versions.{is_second, budgets_in, lowered}
use Rattle.formats.specs.GraphSheet.{Header, header, cost_word, successors}
use Rattle.formats.specs.BoundedSheet.{Row, Preface, sheet_words, heading, block_at, targets_at}
use Rattle.formats.specs.Rule11.{copies_of}

-- the graph of a graph sheet's records, behind any header, and of the sheet
unfoldable pub graph_at : Header → List ℕ → Graph
graph_at h w = record { cost = cost_word h w; next = successors h w }

abbrev pub graph : List ℕ → Graph
graph w = graph_at (header w) w

-- THE TASK of a graph sheet with the handler's cost h: how words make one stands here alone. "Every budget is lowered by h before weighing"
abbrev pub task : List ℕ → ℕ → Task
task w h = task_with (graph w) (header w).blocks (lowered h (budgets_in w))

-- its copies
unfoldable pub sheet_copies : List ℕ → ℕ → List Copy
sheet_copies w h = copies_in (task w h)

-- the row of a copy among the copies
unfoldable pub row_of : Graph → List Copy → Copy → Row
row_of g cs c = record { copy = c; target_words = map (target_number cs) (targets g c) }

unfoldable pub rows_of : Graph → List Copy → List Row
rows_of g cs = map (row_of g cs) cs

-- the entry of a budget: "names the start copy for that budget, 0 if nothing fits"
unfoldable pub entry_for : Task → ℕ → ℕ
entry_for T b = target_number (copies_in T) (copy_for T.graph b 1)

abbrev pub preface_for : Bool → Task → Preface
preface_for v T = record { second = v; budgets = T.budgets; entries = map (entry_for T) T.budgets }

-- the bounded sheet of a task, in either version, and of a graph sheet, in its own: "the lowered ones, which the bounded sheet carries"
abbrev pub bounded_for : Bool → Task → List ℕ
bounded_for v T = sheet_words (preface_for v T) (rows_of T.graph (copies_in T))

unfoldable pub bounded_sheet : List ℕ → ℕ → List ℕ
bounded_sheet w h = bounded_for (is_second w) (task w h)

-- the bounded graph of a bounded sheet; "The exit is the only copy of block 2"
unfoldable pub read_bounded : List ℕ → Bounded
read_bounded s = record {
  size = (heading s).copies;
  block = block_at (heading s) s;
  next = targets_at (heading s) s;
  last = nth (copies_of (heading s) s 2) 1;
}
