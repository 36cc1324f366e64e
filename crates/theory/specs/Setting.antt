-- What the theorems are about, and what they promise: a well-formed graph with its budgets, and a bounded graph that lays its copies out.
-- Rests on base Lists and Copy, Completions, Copies, Machines, Walks.
use Rattle.std.specs.Prelude.{◌≡◌, ◌≢◌, ◌⊎◌, ◌↔◌, ℕ, ◌+◌, ◌≤◌, ◌<◌, length}
use mathlib.Core.List.{List, [], ◌∷◌, map, Memᴰ}
use Rattle.std.proofs.Math.Option.{some}
use Rattle.base.specs.Lists.{chosen}
use Rattle.base.specs.Copy.{Copy, copy_of, number_from}
use Rattle.theory.specs.Completions.{Graph, Completion, low_of}
use Rattle.theory.specs.Copies.{targets, target_number, start_copies}
use Rattle.theory.specs.Tasks.{Task, copies_in}
use Rattle.theory.specs.Machines.{going, diverted, reply, answers, final, cycles, zeros, Unchanged}
use Rattle.theory.specs.Walks.{Walk, end_at, most_moves, monitor, Bounded, bounded_walk, Path}

-- the start and the exit cost nothing, a block with an edge other than the start costs something, no edge leads to the start
-- and none leaves the exit
pub record WellFormed (g : Graph) : Type 0 where
  pub free : g.cost 1 ≡ 0
  pub last : g.cost 2 ≡ 0
  pub paid : (v t : ℕ) → Memᴰ t (g.next v) → v ≢ 1 → 1 ≤ g.cost v
  pub above : (v t : ℕ) → Memᴰ t (g.next v) → 2 ≤ t
  pub closed : g.next 2 ≡ []

-- THE MONITOR, SENTENCE BY SENTENCE (document 01, "The watch and the list of choices")
pub record MonitorActs (g : Graph) (b : ℕ) : Type 0 where
  -- "After the end it answers 32, and nothing changes."
  pub ended : (s : Walk) (k : ℕ) → s.end ≢ going → reply (monitor g b) s k ≡ record { answer = 32; after = s }
  -- "Else, a choice of 0 or above the block's number of successors is answered 31, and nothing changes."
  pub no-choice : (s : Walk) (k : ℕ) → s.end ≡ going → (k ≡ 0) ⊎ (length (g.next s.place) < k)
      → reply (monitor g b) s k ≡ record { answer = 31; after = s }
  -- "Else it answers 0 and looks at the target of the chosen edge. Where the target has a completion costing at most B − count, it
  -- becomes the block and its cost is added to the count; if it is block 2, the end is exit." Said by a sum, which no count cuts off.
  pub enters : (s : Walk) (k t c : ℕ) → s.end ≡ going → chosen (g.next s.place) k ≡ some t → Completion g t c → c + s.count ≤ b
      → reply (monitor g b) s k ≡ record { answer = 0; after = record { place = t; count = s.count + g.cost t; end = end_at 2 t } }
  -- "Otherwise the end is diverted, and block and count stay."
  pub diverts : (s : Walk) (k t : ℕ) → s.end ≡ going → chosen (g.next s.place) k ≡ some t
      → ((c : ℕ) → Completion g t c → c + s.count ≤ b → ⊥)
      → reply (monitor g b) s k ≡ record { answer = 0; after = record { place = s.place; count = s.count; end = diverted } }

-- A KEPT PATH through a block: a path from the start to the exit that costs at most the budget b and enters the block v
pub record Kept (g : Graph) (b v : ℕ) : Type 0 where
  pub choices : List ℕ
  pub blocks : List ℕ
  pub cost : ℕ
  pub path : Path g 1 choices blocks cost
  pub within : cost ≤ b
  pub enters : Memᴰ v blocks

-- A SETTING: a task with a well-formed graph, the largest of whose budgets leaves block 1 a completion
pub record Setting : Type 0 where
  pub task : Task
  pub laws : WellFormed task.graph
  pub inside : (v t : ℕ) → Memᴰ t (task.graph.next v) → t ≤ task.blocks
  pub named : Memᴰ task.largest task.budgets
  pub most : (b : ℕ) → Memᴰ b task.budgets → b ≤ task.largest
  pub start : ℕ
  pub opens : low_of task.graph 1 task.largest ≡ some start

-- an entry: a budget that leaves block 1 a completion, and the low of its start copy
pub record Entry (S : Setting) : Type 0 where
  pub budget : ℕ
  pub named : Memᴰ budget S.task.budgets
  pub low : ℕ
  pub fits : low_of S.task.graph 1 budget ≡ some low

module _ (S : Setting) where
  abbrev pub starts : List Copy
  starts = start_copies S.task.graph S.task.budgets

  -- the copies of the setting
  abbrev pub copies : List Copy
  copies = copies_in S.task

  abbrev pub exit_copy : Copy
  exit_copy = copy_of 2 0

  abbrev pub start_copy : Entry S → Copy
  start_copy E = copy_of 1 E.low

  -- where an entry's start copy stands
  abbrev pub entry_place : Entry S → ℕ
  entry_place E = number_from 1 (start_copy E) copies

  -- a bounded graph that lays the copies out, place by place
  pub record LaysOut (m : Bounded) : Type 0 where
    pub size : m.size ≡ length copies
    pub block : (i : ℕ) (c : Copy) → chosen copies i ≡ some c → m.block i ≡ c.block
    pub next : (i : ℕ) (c : Copy) → chosen copies i ≡ some c → m.next i ≡ map (target_number copies) (targets S.task.graph c)
    pub last : chosen copies m.last ≡ some exit_copy

  -- THE PROMISE about a list of choices: a monitor at the budget b that sets out from s, and a walk on a bounded graph that sets out from t
  module _ (m : Bounded) (b : ℕ) (s t : Walk) (ks : List ℕ) where
    abbrev monitor_end : Walk
    monitor_end = final (reply (monitor S.task.graph b)) s ks

    abbrev bounded_end : Walk
    bounded_end = final (reply (bounded_walk m)) t ks

    pub record Agrees : Type 0 where
      pub answer : answers (reply (bounded_walk m)) t ks ≡ answers (reply (monitor S.task.graph b)) s ks
      pub block : m.block bounded_end.place ≡ monitor_end.place
      pub end : bounded_end.end ≡ monitor_end.end
      pub count : monitor_end.count ≤ b
      -- the blocks that the bounded walk enters cost what the monitor counts
      pub spent : cycles (reply (bounded_walk m)) S.task.graph.cost (λ s. m.block s.place) (λ s. s.end) t ks ≡ monitor_end.count
      pub moves : bounded_end.count ≡ zeros (answers (reply (bounded_walk m)) t ks)
      pub most : bounded_end.count ≤ most_moves b bounded_end.end
      pub monitor-onward : monitor_end.end ≡ going → (reply (monitor S.task.graph b) monitor_end 1).answer ≡ 0
      pub bounded-onward : bounded_end.end ≡ going → (reply (bounded_walk m) bounded_end 1).answer ≡ 0

  -- THE PROMISE about paths: a path runs unchanged exactly where it costs at most the budget
  unfoldable pub PathsKept : Bounded → ℕ → Walk → Type 0
  PathsKept m b t =
      (ks bs : List ℕ) (c : ℕ) → Path S.task.graph 1 ks bs c
      → (c ≤ b) ↔ Unchanged (reply (bounded_walk m)) (λ s. m.block s.place) (λ s. s.end) t ks bs
