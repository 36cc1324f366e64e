-- THE STARTS as calls: a walk that sets out with a chosen budget, on a graph sheet and on a bounded sheet (document 02, K2: "Its start sets a
-- lent walk from the sheet and passes a move's checks of sheet and work area"; K6). Rests on base Lists and Checks, theory, formats, Weigh, Moves.
use Rattle.std.specs.Prelude.{Bool, List, [], ◌∷◌, ◌++◌, ℕ, zero, suc, length}
use Rattle.std.proofs.Math.Option.{Option, some, none}
use Rattle.base.specs.Lists.{nth}
use Rattle.base.specs.Checks.{Order, refused, over, lent_after, outside}
use Rattle.theory.specs.Completions.{Graph, low_of}
use Rattle.theory.specs.Machines.{Reply}
use Rattle.theory.specs.Walks.{Walk, start_at, stopped}
use Rattle.formats.specs.Versions.{budgets_in}
use Rattle.formats.specs.BoundedSheet.{entries_in}
use Rattle.formats.specs.Rule11.{bounded_order}
use Rattle.calls.specs.SheetGraph.{task}
use Rattle.calls.specs.Weigh.{Weighing, weigh_order, area_after}
use Rattle.calls.specs.Moves.{Budgeted, budgeted}

-- a walk on a graph, and the monitor, by what the budget leaves block 1: "Where nothing fits it starts diverted at place 1, count 0"
unfoldable pub sets_out : Option ℕ → Walk
sets_out none = stopped
sets_out (some a) = start_at 1

abbrev pub graph_start : Graph → ℕ → Walk
graph_start g b = sets_out (low_of g 1 b)

-- a walk on a bounded sheet, by the budget's entry
unfoldable pub enters_at : ℕ → Walk
enters_at zero = stopped
enters_at (suc e) = start_at (suc e)

-- A GUARDED START, with a budget number and a work area
pub record Outset : Type 0 where
  pub number : ℕ
  pub area : List ℕ

pub record OutsetOn : Type 0 where
  pub sheet : List ℕ
  pub handler : ℕ
  pub outset : Outset

abbrev pub weighing : OutsetOn → Weighing
weighing i = record { sheet = i.sheet; handler = i.handler; area = i.outset.area }

abbrev pub number_outside : OutsetOn → Bool
number_outside i = outside 1 (length (task i.sheet i.handler).budgets) i.outset.number

-- a move's checks of sheet and work area, and "a budget number outside the sheet is 33"
unfoldable pub guarded_start_order : Order OutsetOn
guarded_start_order = over weighing weigh_order ++ ((33, number_outside) ∷ [])

pub record Started : Type 0 where
  pub answer : ℕ
  pub walk : Budgeted
  pub area : List ℕ

-- on a sheet with the handler's cost h; the walk before, s, plays no part, and is kept under a refusal
unfoldable pub guarded_start : List ℕ → ℕ → Budgeted → Outset → Started
guarded_start w h s i =
    let a = refused guarded_start_order (record { sheet = w; handler = h; outset = i }) in
    record {
      answer = a;
      walk = lent_after a s (budgeted i.number (graph_start (task w h).graph (nth (task w h).budgets i.number)));
      area = area_after (task w h) a i.area;
    }

-- A BOUNDED START, with a budget number
pub record NumberOn : Type 0 where
  pub sheet : List ℕ
  pub number : ℕ

unfoldable pub bounded_start_order : Order NumberOn
bounded_start_order = over (λ i. i.sheet) bounded_order ++ ((33, λ i. outside 1 (length (budgets_in i.sheet)) i.number) ∷ [])

unfoldable pub bounded_start : List ℕ → Budgeted → ℕ → Reply Budgeted
bounded_start t s k =
    let a = refused bounded_start_order (record { sheet = t; number = k }) in
    record { answer = a; after = lent_after a s (budgeted k (enters_at (nth (entries_in t) k))) }
