-- THE BUILD as a call: its answer, and what it leaves in the work area and in the output row (document 01, the tables of refusals).
-- Rests on base Checks, theory Tasks, formats Limits and BoundedSheet, SheetGraph, Weigh.
use Rattle.std.specs.Prelude.{Bool, ◌||◌, List, [], ◌∷◌, ◌++◌, ℕ, ltb, length, drop}
use Rattle.base.specs.Checks.{Order, refused, over, lent_after}
use Rattle.formats.specs.Limits.{most_copies, most_bounded_edges}
use Rattle.theory.specs.Tasks.{Task, copies_in}
use Rattle.formats.specs.BoundedSheet.{edge_count}
use Rattle.calls.specs.SheetGraph.{task, rows_of, bounded_sheet}
use Rattle.calls.specs.Weigh.{Weighing, weigh_order, area_after}

-- 10: "C above 4,096 or F above 8,192", of c copies and f edges, and of a task
unfoldable pub too_many : ℕ → ℕ → Bool
too_many c f = ltb most_copies c || ltb most_bounded_edges f

abbrev pub copy_count : Task → ℕ
copy_count T = length (copies_in T)

abbrev pub edge_total : Task → ℕ
edge_total T = edge_count (rows_of T.graph (copies_in T))

abbrev pub too_large : Task → Bool
too_large T = too_many (copy_count T) (edge_total T)

-- 22: "output row shorter than 3 + 3C + 2F words"; "22 count[s] the new header"
unfoldable pub small_output : List ℕ → ℕ → List ℕ → Bool
small_output w h output = ltb (length output) (length (bounded_sheet w h))

-- what a build is given: a graph sheet, the handler's cost, and what it is lent beside the sheet
pub record Lent : Type 0 where
  pub sheet : List ℕ
  pub handler : ℕ
  pub area : List ℕ
  pub output : List ℕ

abbrev pub weighing : Lent → Weighing
weighing i = record { sheet = i.sheet; handler = i.handler; area = i.area }

-- "1 to 8, 21, 9, 10, 22 for building", of which weighing brings those up to 9
unfoldable pub build_order : Order Lent
build_order =
    over weighing weigh_order
    ++ ((10, λ i. too_large (task i.sheet i.handler)) ∷ (22, λ i. small_output i.sheet i.handler i.output) ∷ [])

-- "An accepted build fills exactly its words"
unfoldable pub output_after : List ℕ → ℕ → ℕ → List ℕ → List ℕ
output_after w h a output = lent_after a output (bounded_sheet w h ++ drop (length (bounded_sheet w h)) output)

-- THE CALL: the answer, and the content of all that was lent
pub record Built : Type 0 where
  pub answer : ℕ
  pub area : List ℕ
  pub output : List ℕ

unfoldable pub build : Lent → Built
build i =
    let a = refused build_order i in
    record {
      answer = a;
      area = area_after (task i.sheet i.handler) a i.area;
      output = output_after i.sheet i.handler a i.output;
    }

-- a build of a sheet with the handler's cost h, an area and an output
abbrev pub built : List ℕ → ℕ → List ℕ → List ℕ → Built
built w h area out = build (record { sheet = w; handler = h; area = area; output = out })
