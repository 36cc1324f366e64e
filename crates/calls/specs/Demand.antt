-- DEMAND 3: the promise about a whole list of choices (document 01, "The watch and the list of choices"; document 02, K2 and K6), sentence by
-- sentence.
-- Rests on theory Machines, Walks and Setting, formats Versions and BoundedSheet, SheetGraph, Weigh, Build, Moves, Starts, Construction.
use Rattle.std.specs.Prelude.{◌≡◌, ◌≢◌, ◌↔◌, false, ℕ, suc, ◌+◌, ◌≤◌, length}
use mathlib.Core.List.{List, map, Memᴰ}
use Rattle.base.specs.Lists.{nth}
use Rattle.theory.specs.Machines.{End, Reply, going, reply, answers, final, cycles, zeros, Unchanged}
use Rattle.theory.specs.Walks.{Walk, starting, monitor, Path}
use Rattle.theory.specs.Setting.{MonitorActs}
use Rattle.formats.specs.Versions.{is_second, budgets_in}
use Rattle.formats.specs.BoundedSheet.{heading, block_at}
use Rattle.calls.specs.SheetGraph.{graph, task}
use Rattle.calls.specs.Weigh.{task_area}
use Rattle.calls.specs.Build.{Lent, build}
use Rattle.calls.specs.Moves.{Budgeted, starting_walk, Move, guarded_reply, bounded_move}
use Rattle.calls.specs.Starts.{Outset, graph_start, guarded_start, bounded_start}
use Rattle.calls.specs.Construction.{built_words}

-- THE CALLS, for a walk that is held as an S: the starting walk; the starts with a budget number, on a graph sheet and on a bounded sheet; a
-- guarded move and a bounded move; and the walk that an S stands for. On a graph sheet each is given the handler's cost too
pub record Calls (S : Type 0) : Type 0 where
  pub start : S
  pub guarded-start : List ℕ → ℕ → S → Outset → Reply S
  pub bounded-start : List ℕ → S → ℕ → Reply S
  pub guarded : List ℕ → ℕ → S → Move → Reply S
  pub bounded : List ℕ → S → ℕ → Reply S
  pub walk : S → Budgeted

-- the walk by value
abbrev pub start_reply : List ℕ → ℕ → Budgeted → Outset → Reply Budgeted
start_reply w h s i = let r = guarded_start w h s i in record { answer = r.answer; after = r.walk }

abbrev pub by_value : Calls Budgeted
by_value = record {
  start = starting_walk;
  guarded-start = start_reply;
  bounded-start = bounded_start;
  guarded = guarded_reply;
  bounded = bounded_move;
  walk = λ s. s;
}

-- the monitor's step on a graph sheet at a budget (document 01: the watch)
abbrev pub monitor_step : List ℕ → ℕ → Walk → ℕ → Reply Walk
monitor_step w b = reply (monitor (graph w) b)

-- the block that a bounded walk shows: "the block in the copy record at its place"
abbrev pub bounded_block : List ℕ → Walk → ℕ
bounded_block t s = block_at (heading t) t s.place

-- w is the graph sheet, h the handler's cost, t the bounded sheet, n the number of a budget; the monitor sets out from z, the two walks from u
-- and v; ms is the list: a choice, and a work area for each guarded move. "the build, the watch and the watched walk, its start too, take one h"
module _ {S : Type 0} (x : Calls S) (w : List ℕ) (h : ℕ) (t : List ℕ) (n : ℕ) (z : Walk) (u v : S) (ms : List Move) where
  abbrev choices : List ℕ
  choices = map (λ i. i.choice) ms

  -- the budget that was claimed, and the budget: "B is the lowered budget"
  abbrev claimed : ℕ
  claimed = nth (budgets_in w) n

  abbrev B : ℕ
  B = nth (task w h).budgets n

  -- the three rows of answers
  abbrev monitor_answers : List ℕ
  monitor_answers = answers (monitor_step w B) z choices

  abbrev guarded_answers : List ℕ
  guarded_answers = answers (x.guarded w h) u ms

  abbrev bounded_answers : List ℕ
  bounded_answers = answers (x.bounded t) v choices

  -- what the last move left, and the walks that it stands for
  abbrev guarded_last : S
  guarded_last = final (x.guarded w h) u ms

  abbrev bounded_last : S
  bounded_last = final (x.bounded t) v choices

  abbrev monitor_end : Walk
  monitor_end = final (monitor_step w B) z choices

  abbrev guarded_end : Walk
  guarded_end = (x.walk (final (x.guarded w h) u ms)).walk

  abbrev bounded_end : Walk
  bounded_end = (x.walk (final (x.bounded t) v (map (λ i. i.choice) ms))).walk

  -- a bounded walk's block and end, at each move
  abbrev block_shown : S → ℕ
  block_shown s = bounded_block t (x.walk s).walk

  abbrev end_shown : S → End
  end_shown s = (x.walk s).walk.end

  -- the cycles of the blocks of the bounded run: the one that is shown first, and each that is entered
  abbrev bounded_cycles : ℕ
  bounded_cycles = (graph w).cost (block_shown v) + cycles (x.bounded t) (graph w).cost block_shown end_shown v choices

  pub record Demand3 : Type 0 where
    -- "The watch of demand 3 is a plain machine", and its three rules
    pub monitor-acts : MonitorActs (graph w) B
    -- "The three rows of answers are equal."
    pub guarded-answers : guarded_answers ≡ monitor_answers
    pub bounded-answers : bounded_answers ≡ monitor_answers
    -- "The three blocks shown are equal, and the three ends. A watched walk shows the block that is its place, a bounded one the block in
    -- the copy record at its place."
    pub guarded-block : guarded_end.place ≡ monitor_end.place
    pub bounded-block : bounded_block t bounded_end ≡ monitor_end.place
    pub guarded-end : guarded_end.end ≡ monitor_end.end
    pub bounded-end : bounded_end.end ≡ monitor_end.end
    -- "The watched walk's count is the watch's count, and at most B."
    pub guarded-count : guarded_end.count ≡ monitor_end.count
    pub guarded-most : guarded_end.count ≤ B
    -- "The bounded walk's count is the number of its answers 0, at most B while going and at most B + 1 once ended."
    pub bounded-count : bounded_end.count ≡ zeros bounded_answers
    pub bounded-going : bounded_end.end ≡ going → bounded_end.count ≤ B
    pub bounded-ended : bounded_end.count ≤ suc B
    -- "A bounded walk from the start of a built sheet ends within B + 1 moves."
    pub ends-within : suc B ≤ zeros bounded_answers → bounded_end.end ≢ going
    -- "If the walks are still going, some choice would be answered 0."
    pub monitor-onward : monitor_end.end ≡ going → (k : ℕ) × ((monitor_step w B monitor_end k).answer ≡ 0)
    pub guarded-onward : guarded_end.end ≡ going
        → (k : ℕ) × ((area : List ℕ) → task_area (task w h) ≤ length area → (x.guarded w h guarded_last (record { choice = k; area = area })).answer ≡ 0)
    pub bounded-onward : bounded_end.end ≡ going → (k : ℕ) × ((x.bounded t bounded_last k).answer ≡ 0)
    -- "A path .. runs unchanged when bounded moves answer 0 to each of its choices, show its blocks in order and end with exit. That is so
    -- exactly when its cost is at most B."
    pub paths-kept : (ks bs : List ℕ) (c : ℕ) → Path (graph w) 1 ks bs c
        → (c ≤ B) ↔ Unchanged (x.bounded t) block_shown end_shown v ks bs
    -- with the handler's cost: B is all of h below the claimed budget, and "kept paths are those costing at most the claimed budget less h"
    pub lowered : B + h ≡ claimed
    pub claim-kept : (ks bs : List ℕ) (c : ℕ) → Path (graph w) 1 ks bs c
        → (c + h ≤ claimed) ↔ Unchanged (x.bounded t) block_shown end_shown v ks bs
    -- "A diverted run, handler included, now stays within the claimed budget", and so does every other: its blocks, which the monitor counts,
    -- and the handler together. So a run that ends at the exit does so within the claimed budget less h
    pub cycles-counted : bounded_cycles ≡ monitor_end.count
    pub cycles-within : bounded_cycles + h ≤ claimed

-- areas that 21 lets pass
abbrev pub RoomFor : List ℕ → ℕ → List Move → Type 0
RoomFor w h ms = (m : Move) → Memᴰ m ms → task_area (task w h) ≤ length m.area

-- THE DEMAND: of every build that answers 0, whatever it was lent, on the words that it filled, of every budget number of the sheet, and of
-- every list of choices, with any work areas that 21 lets pass. "Demand 3 starts the watch and both walks so, with one budget number of the
-- sheet": the starts answer 0, whatever the walks held before, o and p, and the three set out from what they leave
pub record StartsAndKeeps {S : Type 0} (x : Calls S) (w : List ℕ) (h : ℕ) (t : List ℕ) (n : ℕ) (area : List ℕ) (o p : S) (ms : List Move) : Type 0 where
  pub guarded-starts : (x.guarded-start w h o (record { number = n; area = area })).answer ≡ 0
  pub bounded-starts : (x.bounded-start t p n).answer ≡ 0
  pub keeps : Demand3 x w h t n (graph_start (graph w) (nth (task w h).budgets n))
      (x.guarded-start w h o (record { number = n; area = area })).after (x.bounded-start t p n).after ms

abbrev pub KeepsDemand3 : {S : Type 0} → Calls S → Type 0
KeepsDemand3 {S} x =
    (i : Lent) → (build i).answer ≡ 0
    → (n : ℕ) → 1 ≤ n → n ≤ length (budgets_in i.sheet)
    → (area : List ℕ) → task_area (task i.sheet i.handler) ≤ length area
    → (o p : S) (ms : List Move) → RoomFor i.sheet i.handler ms
    → StartsAndKeeps x i.sheet i.handler (built_words i) n area o p ms

-- and document 01's own claim, of a sheet of the first version: "Both walks begin as the starting walk"
abbrev pub KeepsFromStart : {S : Type 0} → Calls S → Type 0
KeepsFromStart x =
    (i : Lent) → (build i).answer ≡ 0 → is_second i.sheet ≡ false
    → (ms : List Move) → RoomFor i.sheet i.handler ms
    → Demand3 x i.sheet i.handler (built_words i) 1 starting x.start x.start ms
