-- The graph sheet: its header in both versions, its records, its chains, and the conditions 1 to 8, 41 and 43 by number (document 01, "Graph
-- sheet" and the table; document 02, K2 and K6). Rests on base Lists and Checks, Limits, Words, Versions.
use Rattle.std.specs.Prelude.{◌≡◌, Bool, true, false, ◌||◌, not, List, [], ◌∷◌, ◌++◌, map, ℕ, zero, suc, ◌+◌, ◌*◌, ◌≤◌, ltb, eqb, length}
use Rattle.base.specs.Lists.{any, all, each, from}
use Rattle.base.specs.Checks.{Order, refused, over, outside}
use Rattle.formats.specs.Limits.{least_words, least_blocks, most_blocks, least_edges, most_edges}
use Rattle.formats.specs.Words.{word, field, chain_length, unsound, target_from, next_from, edges_from}
use Rattle.formats.specs.Versions.{is_second, bad_budget, bad_budgets, bad_handler}

-- what the header says of the records: N blocks, E edges, and the word at which they begin, counted from 0
pub record Header : Type 0 where
  pub blocks : ℕ
  pub edges : ℕ
  pub records : ℕ

abbrev pub header_of : ℕ → ℕ → ℕ → Header
header_of at n m = record { blocks = n; edges = m; records = at }

-- "Three words: N blocks, E edges, budget B in cycles."; and the second version's "0, N, E, the number of budgets, the budgets"
unfoldable pub header : List ℕ → Header
header w = elim (is_second w) [ true ↦ header_of (4 + word w 3) (word w 1) (word w 2) | false ↦ header_of 3 (word w 0) (word w 1) ]

-- the length of a sheet with this header, "exactly 3 + 2N + 2E words": the header's words, "N block records of two words",
-- "E edge records of two words"; "3 .. count the new header"
abbrev pub sheet_length : Header → ℕ
sheet_length h = h.records + 2 * h.blocks + 2 * h.edges

-- the word at which the edge records begin
abbrev pub edges_at : Header → ℕ
edges_at h = h.records + 2 * h.blocks

-- THE RECORDS, behind any header: h is what it says
module _ (h : Header) (w : List ℕ) where
  -- a number that is no block's costs nothing
  unfoldable pub cost_word : ℕ → ℕ
  cost_word v = elim (outside 1 h.blocks v) [ true ↦ 0 | false ↦ field w h.records 2 v 0 ]

  abbrev pub first_word : ℕ → ℕ
  first_word v = field w h.records 2 v 1

  abbrev pub target_word : ℕ → ℕ
  target_word e = target_from w (edges_at h) e

  abbrev pub next_word : ℕ → ℕ
  next_word e = next_from w (edges_at h) e

  -- a block's chain, by edge numbers; one more than there are edges is enough to see an edge twice
  unfoldable pub chain : ℕ → List ℕ
  chain v = edges_from w (edges_at h) (suc h.edges) (first_word v)

  -- the edges met by following all chains, block by block
  unfoldable pub met : List ℕ
  met = each chain (from 1 h.blocks)

  -- a block's successors in order; a number that is no block's has none
  unfoldable pub successors : ℕ → List ℕ
  successors v = elim (outside 1 h.blocks v) [ true ↦ [] | false ↦ map target_word (chain v) ]

  -- a block's number of successors, counted down its chain
  unfoldable pub successor_count : ℕ → ℕ
  successor_count v = chain_length next_word (suc h.edges) (first_word v)

-- THE CONDITIONS 1 to 8, by number; 4, 41 and 43 stand in Versions

-- 1: fewer than 3 words
unfoldable pub short : List ℕ → Bool
short w = ltb (length w) least_words

-- a cost that fits block v: "block 1 or 2 with a cost, or another block with cost 0" does not
unfoldable pub cost_fits : ℕ → ℕ → Bool
cost_fits v c = elim (ltb v 3) [ true ↦ eqb c 0 | false ↦ ltb 0 c ]

-- the others, behind any header
module _ (h : Header) (w : List ℕ) where
  -- 2: N or E outside its limit
  unfoldable pub bad_counts : Bool
  bad_counts = outside least_blocks most_blocks h.blocks || outside least_edges most_edges h.edges

  -- 3: not exactly 3 + 2N + 2E words; "a row ending before its budgets is 3"
  unfoldable pub bad_length : Bool
  bad_length = not (eqb (length w) (sheet_length h))

  -- 5: block 1 or 2 with a cost, or another block with cost 0
  unfoldable pub bad_costs : Bool
  bad_costs = not (all (λ v. cost_fits v (cost_word h w v)) (from 1 h.blocks))

  -- 6: a target that is 0, 1 or above N
  unfoldable pub bad_targets : Bool
  bad_targets = any (λ e. outside 2 h.blocks (target_word h w e)) (from 1 h.edges)

  -- 7: following all chains meets an edge number above E, or an edge twice, or misses an edge
  unfoldable pub bad_chains : Bool
  bad_chains = unsound h.edges (met h w)

  -- 8: the exit has a chain
  unfoldable pub exit_chain : Bool
  exit_chain = not (eqb (first_word h w 2) 0)

-- THE ORDER of the conditions on a graph sheet alone, in pieces that are put together
abbrev pub condition : ℕ → (Header → List ℕ → Bool) → ℕ × (List ℕ → Bool)
condition k f = (k, λ w. f (header w) w)

abbrev pub length_order : Order (List ℕ)
length_order = (1, short) ∷ []

abbrev pub counts_order : Order (List ℕ)
counts_order = condition 2 bad_counts ∷ []

abbrev pub size_order : Order (List ℕ)
size_order = condition 3 bad_length ∷ []

abbrev pub budget_order : Order (List ℕ)
budget_order = (4, bad_budget) ∷ (41, bad_budgets) ∷ []

abbrev pub cost_order : Order (List ℕ)
cost_order = condition 5 bad_costs ∷ []

abbrev pub edge_order : Order (List ℕ)
edge_order = condition 6 bad_targets ∷ condition 7 bad_chains ∷ condition 8 exit_chain ∷ []

unfoldable pub sheet_order : Order (List ℕ)
sheet_order = length_order ++ counts_order ++ size_order ++ budget_order ++ cost_order ++ edge_order

unfoldable pub sheet_refusal : List ℕ → ℕ
sheet_refusal w = refused sheet_order w

-- WITH THE HANDLER'S COST, as a build and a guarded walk are given it: "43 .. after 41"
pub record Handled : Type 0 where
  pub sheet : List ℕ
  pub handler : ℕ

abbrev pub handler_order : Order Handled
handler_order = (43, λ i. bad_handler i.handler i.sheet) ∷ []

unfoldable pub handled_order : Order Handled
handled_order =
    over (λ i. i.sheet) (length_order ++ counts_order ++ size_order ++ budget_order)
    ++ handler_order
    ++ over (λ i. i.sheet) (cost_order ++ edge_order)

unfoldable pub handled_refusal : List ℕ → ℕ → ℕ
handled_refusal w h = refused handled_order (record { sheet = w; handler = h })

-- WHAT THEY LEAVE, behind any header: 2, and a row in which the records have room; 2 and 3, a row of the length that the header says;
-- 5 to 8, records that hold a graph
pub record Recorded (h : Header) (w : List ℕ) : Type 0 where
  pub blocks : (least_blocks ≤ h.blocks) × (h.blocks ≤ most_blocks)
  pub edges : (least_edges ≤ h.edges) × (h.edges ≤ most_edges)
  pub room : sheet_length h ≤ length w

pub record Formed (h : Header) (w : List ℕ) : Type 0 where
  pub blocks : (least_blocks ≤ h.blocks) × (h.blocks ≤ most_blocks)
  pub edges : (least_edges ≤ h.edges) × (h.edges ≤ most_edges)
  pub size : length w ≡ sheet_length h

pub record Sound (h : Header) (w : List ℕ) : Type 0 where
  pub form : Formed h w
  pub costs : bad_costs h w ≡ false
  pub targets : bad_targets h w ≡ false
  pub chains : bad_chains h w ≡ false
  pub exit : exit_chain h w ≡ false

-- THE NUMBER OF SUCCESSORS, as a call: the sheet's own numbers, then 33 for a block outside 1 to N; a refusal counts 0
pub record BlockOf : Type 0 where
  pub sheet : List ℕ
  pub block : ℕ

unfoldable pub count_order : Order BlockOf
count_order = over (λ i. i.sheet) sheet_order ++ ((33, λ i. outside 1 (header i.sheet).blocks i.block) ∷ [])

pub record Counted : Type 0 where
  pub answer : ℕ
  pub count : ℕ

unfoldable pub count_successors : List ℕ → ℕ → Counted
count_successors w v =
    elim (refused count_order (record { sheet = w; block = v })) [
      | zero ↦ record { answer = 0; count = successor_count (header w) w v }
      | suc n ↦ record { answer = suc n; count = 0 }
    ]
