-- THE MOVES as calls: a guarded move on a graph sheet and a bounded move on a bounded sheet (document 01, "Walks" and the tables of refusals;
-- document 02, K2 and K6). Rests on base Lists and Checks, theory Machines and Walks, formats, SheetGraph, Weigh.
use Rattle.std.specs.Prelude.{Bool, ◌||◌, not, List, [], ◌∷◌, ◌++◌, ℕ, ltb, eqb, length}
use Rattle.std.specs.Bool.{beq}
use Rattle.base.specs.Lists.{nth}
use Rattle.base.specs.Checks.{Order, refused, over, lent_after, outside}
use Rattle.theory.specs.Machines.{Reply, reply}
use Rattle.theory.specs.Walks.{Walk, starting, is_exit, has_ended, most_moves, monitor, bounded_walk}
use Rattle.formats.specs.Versions.{budgets_in}
use Rattle.formats.specs.Rule11.{bounded_order}
use Rattle.calls.specs.SheetGraph.{task, read_bounded}
use Rattle.calls.specs.Weigh.{Weighing, weigh_order, area_after}

-- A WALK WITH ITS BUDGET: "A walk now holds the number of a chosen budget, 1 .. in the starting walk"
pub record Budgeted : Type 0 where
  pub number : ℕ
  pub walk : Walk

abbrev pub budgeted : ℕ → Walk → Budgeted
budgeted k s = record { number = k; walk = s }

abbrev pub starting_walk : Budgeted
starting_walk = budgeted 1 starting

-- a machine's reply, for a walk with its budget: the number stays
abbrev pub reply_with : ℕ → Reply Walk → Reply Budgeted
reply_with k r = record { answer = r.answer; after = budgeted k r.after }

-- 33: a walk on n places, with the exit's at x and a count of at most m, is "out of shape: place outside the sheet; end exit and place 2
-- not together; .. count above .."
unfoldable pub out_of_shape : ℕ → ℕ → ℕ → Walk → Bool
out_of_shape n x m s = outside 1 n s.place || (not (beq (is_exit s.end) (eqb s.place x)) || ltb m s.count)

-- what a move depends on behind the sheet's own checks: the number of budgets, the places, the exit's, the largest count, the successors of
-- the walk's place, the walk and the choice
pub record Standing : Type 0 where
  pub budgets : ℕ
  pub places : ℕ
  pub last : ℕ
  pub most : ℕ
  pub targets : List ℕ
  pub walk : Budgeted
  pub choice : ℕ

-- "a budget number outside the sheet is 33"
unfoldable pub bad_walk : Standing → Bool
bad_walk i = outside 1 i.budgets i.walk.number || out_of_shape i.places i.last i.most i.walk.walk

-- "33, 32, 31", with which both orders end; 32: "the walk has ended", 31: "choice 0 or beyond the place's successors"
unfoldable pub move_order : Order Standing
move_order =
    (33, bad_walk)
    ∷ (32, λ i. has_ended i.walk.walk.end)
    ∷ (31, λ i. outside 1 (length i.targets) i.choice)
    ∷ []

-- an answer with the walk after it: under a refusal the walk as it was, under 0 as the machine's move leaves it
unfoldable pub moved : ℕ → Budgeted → Reply Budgeted → Reply Budgeted
moved a s r = record { answer = a; after = lent_after a s r.after }

-- A GUARDED MOVE (document 01: a watched move)

-- what it is given beside the sheet and the walk: a choice, and a work area
pub record Move : Type 0 where
  pub choice : ℕ
  pub area : List ℕ

pub record GuardedInput : Type 0 where
  pub sheet : List ℕ
  pub handler : ℕ
  pub area : List ℕ
  pub walk : Budgeted
  pub choice : ℕ

abbrev pub weighing : GuardedInput → Weighing
weighing i = record { sheet = i.sheet; handler = i.handler; area = i.area }

-- "the watched move .. and the count limits read that budget as B", which is lowered: "33 go[es] by the lowered ones"
abbrev pub on_graph : GuardedInput → Standing
on_graph i =
    let T = task i.sheet i.handler in
    record {
      budgets = length T.budgets;
      places = T.blocks;
      last = 2;
      most = nth T.budgets i.walk.number;
      targets = T.graph.next i.walk.walk.place;
      walk = i.walk;
      choice = i.choice;
    }

-- "1 to 8, 21, 9, 33, 32, 31 for a watched move"
unfoldable pub guarded_order : Order GuardedInput
guarded_order = over weighing weigh_order ++ over on_graph move_order

-- the answer and the walk, on a sheet with the handler's cost h
unfoldable pub guarded_reply : List ℕ → ℕ → Budgeted → Move → Reply Budgeted
guarded_reply w h s i =
    moved (refused guarded_order (record { sheet = w; handler = h; area = i.area; walk = s; choice = i.choice })) s
    (reply_with s.number (reply (monitor (task w h).graph (nth (task w h).budgets s.number)) s.walk i.choice))

-- THE CALL: the answer, the walk, and the content of the work area
pub record Guarded : Type 0 where
  pub answer : ℕ
  pub walk : Budgeted
  pub area : List ℕ

unfoldable pub guarded_move : List ℕ → ℕ → Budgeted → Move → Guarded
guarded_move w h s i =
    let r = guarded_reply w h s i in
    record { answer = r.answer; walk = r.after; area = area_after (task w h) r.answer i.area }

-- A BOUNDED MOVE

pub record BoundedInput : Type 0 where
  pub sheet : List ℕ
  pub walk : Budgeted
  pub choice : ℕ

abbrev pub on_bounded : BoundedInput → Standing
on_bounded i =
    let m = read_bounded i.sheet in
    record {
      budgets = length (budgets_in i.sheet);
      places = m.size;
      last = m.last;
      most = most_moves (nth (budgets_in i.sheet) i.walk.number) i.walk.walk.end;
      targets = m.next i.walk.walk.place;
      walk = i.walk;
      choice = i.choice;
    }

-- "11, 33, 32, 31 for a bounded one"
unfoldable pub bounded_move_order : Order BoundedInput
bounded_move_order = over (λ i. i.sheet) bounded_order ++ over on_bounded move_order

-- THE CALL: the answer and the walk
unfoldable pub bounded_move : List ℕ → Budgeted → ℕ → Reply Budgeted
bounded_move t s k =
    moved (refused bounded_move_order (record { sheet = t; walk = s; choice = k })) s
    (reply_with s.number (reply (bounded_walk (read_bounded t)) s.walk k))
