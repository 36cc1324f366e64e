-- WEIGHING as a call, the front of a build and of a guarded move: the answers 1 to 8, 41, 43, 21 and 9, and the work area after any answer.
-- Rests on base Checks, theory Completions, formats GraphSheet, SheetGraph, Area.
use Rattle.std.specs.Prelude.{Bool, true, false, List, [], ◌∷◌, ◌++◌, ℕ, ltb, length}
use Rattle.base.specs.Lists.{is_none, member}
use Rattle.base.specs.Checks.{Order, refused, over, numbers_of, numbers_before}
use Rattle.theory.specs.Completions.{low_of}
use Rattle.theory.specs.Tasks.{Task}
use Rattle.formats.specs.GraphSheet.{Handled, handled_order}
use Rattle.calls.specs.SheetGraph.{task}
use Rattle.calls.specs.Area.{area_size, filled}

-- what is given: a graph sheet, the handler's cost and a work area
pub record Weighing : Type 0 where
  pub sheet : List ℕ
  pub handler : ℕ
  pub area : List ℕ

abbrev pub handled : Weighing → Handled
handled i = record { sheet = i.sheet; handler = i.handler }

abbrev pub task_of : Weighing → Task
task_of i = task i.sheet i.handler

-- the length that a task asks of its work area
unfoldable pub task_area : Task → ℕ
task_area T = area_size T.blocks T.largest

-- 21: "work area (bytes) shorter than N × (B + 1)"
unfoldable pub small_area : Weighing → Bool
small_area i = ltb (length i.area) (task_area (task_of i))

-- 9: "block 1 has no completion cost at or below B"
unfoldable pub nothing_fits : Task → Bool
nothing_fits T = is_none (low_of T.graph 1 T.largest)

-- "1 to 8, 21, 9", with which both orders begin, with 41 and 43 behind 4, in pieces
abbrev pub area_order : Order Weighing
area_order = (21, small_area) ∷ []

abbrev pub fit_order : Order Weighing
fit_order = (9, λ i. nothing_fits (task_of i)) ∷ []

unfoldable pub front_order : Order Weighing
front_order = over handled handled_order ++ area_order

unfoldable pub weigh_order : Order Weighing
weigh_order = front_order ++ fit_order

-- "each number checked before 9"
unfoldable pub before_weighing : ℕ → Bool
before_weighing a = member a (numbers_before 9 (numbers_of weigh_order))

-- the work area after a building or guarded call on a task that answered a
unfoldable pub area_after : Task → ℕ → List ℕ → List ℕ
area_after T a area = elim (before_weighing a) [ true ↦ area | false ↦ filled T.graph T.blocks T.largest area ]

-- THE CALL: the answer, and the content of the work area
pub record Weighed : Type 0 where
  pub answer : ℕ
  pub area : List ℕ

unfoldable pub weighed : Weighing → Weighed
weighed i = let a = refused weigh_order i in record { answer = a; area = area_after (task_of i) a i.area }
