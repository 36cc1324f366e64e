-- WHAT 9 AND THE WORK AREA SAY of a sheet's completions (document 01, behind the tables of refusals), over the inductive completions.
-- Rests on theory Completions, SheetGraph, Area, Weigh, Build, Moves, Starts.
use Rattle.std.specs.Prelude.{◌≡◌, ◌↔◌, true, false, List, ℕ, ◌≤◌, length, get_or}
use Rattle.theory.specs.Completions.{Completion, NoLow}
use Rattle.formats.specs.GraphSheet.{sheet_refusal}
use Rattle.calls.specs.SheetGraph.{task}
use Rattle.base.specs.Cells.{cell_of}
use Rattle.calls.specs.Weigh.{Weighing, task_area, nothing_fits, before_weighing, weighed}
use Rattle.calls.specs.Build.{Lent, build}
use Rattle.calls.specs.Moves.{Budgeted, Move, guarded_move}
use Rattle.calls.specs.Starts.{Outset, guarded_start}

-- "block 1 has no completion cost at or below B", of a sheet that passes 1 to 8
abbrev pub NineIsExact : Type 0
NineIsExact = (w : List ℕ) (h : ℕ) → sheet_refusal w ≡ 0 → (nothing_fits (task w h) ≡ true) ↔ NoLow (task w h).graph 1 (task w h).largest

-- an area before and after a call on the sheet w with the handler's cost h: "the work area .. go[es] by the lowered" budgets
pub record Holds (w : List ℕ) (h : ℕ) (old new : List ℕ) : Type 0 where
  -- "its byte at (block − 1) × (B + 1) + cost is 1 where that block has that completion cost, else 0"
  pub set : (v c : ℕ) → 1 ≤ v → v ≤ (task w h).blocks → c ≤ (task w h).largest
      → (get_or new (cell_of (task w h).largest v c) 0 ≡ 1) ↔ Completion (task w h).graph v c
  pub clear : (v c : ℕ) → 1 ≤ v → v ≤ (task w h).blocks → c ≤ (task w h).largest
      → (get_or new (cell_of (task w h).largest v c) 0 ≡ 0) ↔ (Completion (task w h).graph v c → ⊥)
  -- "the rest is untouched"
  pub rest : (i : ℕ) → task_area (task w h) ≤ i → get_or new i 0 ≡ get_or old i 0
  pub size : length new ≡ length old

-- "After any other answer of a building or watched call", and so of weighing alone
abbrev pub WeighingFills : Type 0
WeighingFills = (i : Weighing) → before_weighing (weighed i).answer ≡ false → Holds i.sheet i.handler i.area (weighed i).area

abbrev pub BuildFills : Type 0
BuildFills = (i : Lent) → before_weighing (build i).answer ≡ false → Holds i.sheet i.handler i.area (build i).area

abbrev pub MoveFills : Type 0
MoveFills =
    (w : List ℕ) (h : ℕ) (s : Budgeted) (m : Move) → before_weighing (guarded_move w h s m).answer ≡ false
    → Holds w h m.area (guarded_move w h s m).area

-- "passes a move's checks of sheet and work area"
abbrev pub StartFills : Type 0
StartFills =
    (w : List ℕ) (h : ℕ) (s : Budgeted) (i : Outset) → before_weighing (guarded_start w h s i).answer ≡ false
    → Holds w h i.area (guarded_start w h s i).area
