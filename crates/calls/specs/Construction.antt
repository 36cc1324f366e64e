-- DEMAND 2: the bounded sheet has exactly the copies and branches of the published construction, in the listed order (document 01,
-- "Completions and copies" and "Bounded sheet"; document 02, K2 and K6), sentence by sentence. Rests on theory Completions and Copies, formats, Build.
use Rattle.std.specs.Prelude.{◌≡◌, ◌≢◌, ◌↔◌, true, false, ℕ, ◌+◌, ◌≤◌, ◌<◌, length, take}
use mathlib.Core.List.{List, Memᴰ}
use Rattle.std.proofs.Math.Option.{some}
use Rattle.base.specs.Lists.{chosen, nth}
use Rattle.base.specs.Copy.{Copy, copy_of, before}
use Rattle.theory.specs.Completions.{Graph, Completion, IsLow, NoLow}
use Rattle.theory.specs.Copies.{Reached}
use Rattle.formats.specs.Limits.{word_limit}
use Rattle.formats.specs.Versions.{is_second, budgets_in}
use Rattle.formats.specs.BoundedSheet.{heading, entries_in, bounded_length, copy_at, targets_at}
use Rattle.formats.specs.Rule11.{bounded_refusal}
use Rattle.calls.specs.SheetGraph.{graph, task, bounded_sheet, read_bounded}
use Rattle.calls.specs.Build.{Lent, build}

-- w is the graph sheet, h the handler's cost, t the bounded sheet: its records are read, and nothing here is computed from the graph
module _ (w : List ℕ) (h : ℕ) (t : List ℕ) where
  abbrev G : Graph
  G = graph w

  abbrev B : ℕ
  B = (task w h).largest

  -- a budget's number, the budget, lowered, and its entry
  abbrev pub IsBudget : ℕ → Type 0
  IsBudget k = (1 ≤ k) × (k ≤ length (task w h).budgets)

  abbrev pub budget : ℕ → ℕ
  budget k = nth (task w h).budgets k

  abbrev pub entry : ℕ → ℕ
  entry k = nth (entries_in t) k

  -- a copy's number, the copy of its record, its block's cost, and the targets of its chain, in order
  abbrev pub IsPlace : ℕ → Type 0
  IsPlace i = (1 ≤ i) × (i ≤ (heading t).copies)

  abbrev pub copy : ℕ → Copy
  copy i = copy_at (heading t) t i

  abbrev pub cost : ℕ → ℕ
  cost i = (graph w).cost (copy i).block

  abbrev pub edges : ℕ → List ℕ
  edges i = targets_at (heading t) t i

  pub record Demand2 : Type 0 where
    -- "A copy is a pair (block, low), where low is a completion cost of that block"
    pub low : (i : ℕ) → IsPlace i → Completion G (copy i).block (copy i).low
    -- "it serves every amount of cycles left whose largest completion cost is low": with such an amount r left, each edge leads where r would
    pub serves : (i r v x y a : ℕ) → IsPlace i → IsLow G (copy i).block r (copy i).low → Memᴰ v (G.next (copy i).block)
        → (copy i).low ≡ cost i + x → r ≡ cost i + y → IsLow G v x a ↔ IsLow G v y a
    -- "The start copy has the largest completion cost of block 1 not above B." For each budget, "An entry word names the start copy for that
    -- budget, 0 if nothing fits"
    pub entry-fits : (k a : ℕ) → IsBudget k → IsLow G 1 (budget k) a → IsPlace (entry k) × (copy (entry k) ≡ copy_of 1 a)
    pub entry-none : (k : ℕ) → IsBudget k → NoLow G 1 (budget k) → entry k ≡ 0
    -- something fits the largest
    pub start : ℕ
    pub start-low : IsLow G 1 B start
    -- the start copies
    pub starts : List Copy
    pub starts-are : (c : Copy) → Memᴰ c starts ↔ ((c.block ≡ 1) × ((k : ℕ) × IsBudget k × IsLow G 1 (budget k) c.low))
    -- "For an edge from copy (u, a) to block v, take a − cost(u)", which is r: "with no completion cost of v at or below it, the edge is
    -- diverted; else it goes to v's copy whose low is the largest such cost."
    pub choices : (i : ℕ) → IsPlace i → length (edges i) ≡ length (G.next (copy i).block)
    pub diverted : (i k v r : ℕ) → IsPlace i → chosen (G.next (copy i).block) k ≡ some v → (copy i).low ≡ cost i + r → NoLow G v r
        → chosen (edges i) k ≡ some 0
    pub goes : (i k v r a : ℕ) → IsPlace i → chosen (G.next (copy i).block) k ≡ some v → (copy i).low ≡ cost i + r → IsLow G v r a
        → (n : ℕ) × IsPlace n × (chosen (edges i) k ≡ some n) × (copy n ≡ copy_of v a)
    -- "The bounded graph is all copies reached so, and no other."
    pub reached : (c : Copy) → ((i : ℕ) × IsPlace i × (copy i ≡ c)) ↔ ((j : ℕ) × Reached G starts j c)
    -- "From any block but the start the low falls."
    pub falls : (i n : ℕ) → IsPlace i → Memᴰ n (edges i) → n ≢ 0 → (copy i).block ≢ 1 → (copy n).low < (copy i).low
    -- "Targets never name a start copy."
    pub behind : (i n : ℕ) → IsPlace i → Memᴰ n (edges i) → n ≢ 0 → (copy n).block ≢ 1
    -- "The exit's only completion costs 0."
    pub exit : (c : ℕ) → Completion G 2 c → c ≡ 0
    -- "Three words: C copies, F edges, B", "Its bounded sheet begins 0, C, F, that number, the budgets, one entry word each", and the records
    pub version : is_second t ≡ is_second w
    pub budgets : budgets_in t ≡ (task w h).budgets
    pub entries : length (entries_in t) ≡ length (task w h).budgets
    -- "Every budget is lowered by h", and by all of it: each that the bounded sheet carries is, with h, the one that was claimed
    pub claims : length (task w h).budgets ≡ length (budgets_in w)
    pub lowered : (k : ℕ) → IsBudget k → nth (budgets_in t) k + h ≡ nth (budgets_in w) k
    pub size : length t ≡ bounded_length (heading t)
    -- "Copies rise by block, then low", so that no copy stands there twice: "equal start copies are shared"
    pub rising : (i j : ℕ) → 1 ≤ i → i < j → j ≤ (heading t).copies → before (copy i) (copy j) ≡ true
    pub two : 2 ≤ (heading t).copies
    -- "The exit is the only copy of block 2"
    pub last : IsPlace (read_bounded t).last × (copy (read_bounded t).last ≡ copy_of 2 0)
    pub last-only : (i : ℕ) → IsPlace i → (copy i).block ≡ 2 → i ≡ (read_bounded t).last
    -- of a sheet of the first version "copy 1 is the start and copy 2 the exit"
    pub first : is_second w ≡ false → (copy 1 ≡ copy_of 1 start) × ((read_bounded t).last ≡ 2)
    -- rule 11 lets the sheet pass ("Edges are numbered copy by copy in chain order", and its other rules), and each word fits 16 bits
    pub rule : bounded_refusal t ≡ 0
    pub words-fit : (x : ℕ) → Memᴰ x t → x < word_limit

-- "exactly the words that build filled"
abbrev pub built_words : Lent → List ℕ
built_words i = take (length (bounded_sheet i.sheet i.handler)) (build i).output

-- THE DEMAND: of every build that answers 0, whatever it was lent
abbrev pub KeepsDemand2 : Type 0
KeepsDemand2 = (i : Lent) → (build i).answer ≡ 0 → Demand2 i.sheet i.handler (built_words i)
