-- Cases: one input of one call each, and what the definitions make of it, as a row of numbers. Examples and refusals are rows of them.
-- Rests on theory Machines and Walks, formats Rule11 and Refusals, SheetGraph, Build, Moves, Starts, Program, Report, Demand.
use Rattle.std.specs.Prelude.{List, [], ◌∷◌, ◌++◌, ℕ, zero, suc, ◌+◌, ◌-◌, ◌*◌, replicate, set}
use Rattle.base.specs.Lists.{nth}
use Rattle.theory.specs.Machines.{End, going, exit, diverted, answers, final}
use Rattle.theory.specs.Walks.{Walk}
use Rattle.formats.specs.Rule11.{bounded_refusal}
use Rattle.formats.specs.Refusals.{Case as FormatCase, outcome as format_outcome}
use Rattle.calls.specs.SheetGraph.{graph, task, bounded_sheet}
use Rattle.calls.specs.Build.{Lent, build}
use Rattle.calls.specs.Moves.{Budgeted, Move, guarded_move, bounded_move}
use Rattle.calls.specs.Starts.{Outset, graph_start, guarded_start, bounded_start}
use Rattle.calls.specs.Program.{listing}
use Rattle.calls.specs.Report.{report}
use Rattle.calls.specs.Demand.{monitor_step}

pub data Case : Type 0 where
  -- a call that goes by the formats alone
  format : FormatCase → Case
  -- a build with a handler's cost and buffers that are long enough: the answer, and of an accepted one rule 11's answer and the whole bounded
  -- sheet
  sheet_with : List ℕ → ℕ → Case
  -- a build: the answer, the work area, the output row
  build_of : Lent → Case
  -- a guarded move with a handler's cost: the answer, the walk, the work area
  guarded_of : List ℕ → ℕ → Budgeted → Move → Case
  -- a bounded move: the answer, the walk
  move_of : List ℕ → Budgeted → ℕ → Case
  -- a guarded start with a handler's cost: the answer, the walk, the work area; a bounded start: the answer, the walk
  start_of : List ℕ → ℕ → Budgeted → Outset → Case
  enter_of : List ℕ → Budgeted → ℕ → Case
  -- the monitor with a handler's cost and a budget's number over a list of choices: its answers, and its last state
  monitor_of : List ℕ → ℕ → ℕ → List ℕ → Case
  -- the listing program's output on a file's bytes
  listing_for : List ℕ → Case
  -- the report program's output on a catalogue's bytes
  report_for : List ℕ → Case

-- without a handler's cost
abbrev pub sheet_of : List ℕ → Case
sheet_of w = sheet_with w 0

-- a work area of n blocks and the budget b, with the bytes of these blocks and costs 1, and all others 0
unfoldable pub area_with : ℕ → ℕ → List (ℕ × ℕ) → List ℕ
area_with n b [] = replicate (n * suc b) 0
area_with n b (p ∷ ps) = set (area_with n b ps) ((p.0 - 1) * suc b + p.1) 1

unfoldable pub end_number : End → ℕ
end_number going = 0
end_number exit = 1
end_number diverted = 2

abbrev state_numbers : Walk → List ℕ
state_numbers s = s.place ∷ s.count ∷ end_number s.end ∷ []

abbrev walk_numbers : Budgeted → List ℕ
walk_numbers s = state_numbers s.walk ++ (s.number ∷ [])

abbrev budget_of : List ℕ → ℕ → ℕ → ℕ
budget_of w h n = nth (task w h).budgets n

unfoldable pub sheet_shown : List ℕ → ℕ → ℕ → List ℕ
sheet_shown w h zero = 0 ∷ bounded_refusal (bounded_sheet w h) ∷ bounded_sheet w h
sheet_shown w h (suc n) = suc n ∷ []

unfoldable pub outcome : Case → List ℕ
outcome (format c) = format_outcome c
outcome (sheet_with w h) = sheet_shown w h (build (record { sheet = w; handler = h; area = replicate 300 7; output = replicate 300 9 })).answer
outcome (build_of i) = let r = build i in r.answer ∷ (r.area ++ r.output)
outcome (guarded_of w h s m) = let r = guarded_move w h s m in r.answer ∷ (walk_numbers r.walk ++ r.area)
outcome (move_of t s k) = let r = bounded_move t s k in r.answer ∷ walk_numbers r.after
outcome (start_of w h s i) = let r = guarded_start w h s i in r.answer ∷ (walk_numbers r.walk ++ r.area)
outcome (enter_of t s k) = let r = bounded_start t s k in r.answer ∷ walk_numbers r.after
outcome (monitor_of w h n ks) =
    let z = graph_start (graph w) (budget_of w h n) in
    answers (monitor_step w (budget_of w h n)) z ks ++ state_numbers (final (monitor_step w (budget_of w h n)) z ks)
outcome (listing_for bs) = listing bs
outcome (report_for bs) = report bs
