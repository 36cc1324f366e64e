-- THE OPERATION SHEET, in both versions of the header (document 02, K4): the cycles of an operation, its records, condition 42, and the converter
-- as a call. Rests on base Lists and Checks, formats Limits, Words, Versions, GraphSheet.
use Rattle.std.specs.Prelude.{◌≡◌, Bool, true, false, ◌||◌, not, List, [], ◌∷◌, ◌++◌, map, ℕ, suc, ◌+◌, ◌*◌, ◌≤◌, ltb, eqb, length, take, drop}
use Rattle.base.specs.Lists.{any, each, from, sum}
use Rattle.base.specs.Checks.{Order, refused, over, lent_after}
use Rattle.formats.specs.Limits.{most_operations, most_operation}
use Rattle.formats.specs.Words.{word, field, follow, unsound}
use Rattle.formats.specs.Versions.{budgets_in}
use Rattle.formats.specs.GraphSheet.{Header, header, sheet_length, edges_at, cost_word, first_word, target_word, next_word}
use Rattle.formats.specs.GraphSheet.{bad_costs, bad_targets, bad_chains, exit_chain, Recorded}
use Rattle.formats.specs.GraphSheet.{condition, length_order, counts_order, budget_order, edge_order, sheet_refusal}

-- "Operations 0 to 7 take 1 cycle, 8 to 11 take 2, 12 to 14 take 3, and 15 takes 8."
unfoldable pub cycles_of : ℕ → ℕ
cycles_of k = elim (ltb k 8) [ true ↦ 1 | false ↦ elim (ltb k 12) [ true ↦ 2 | false ↦ elim (ltb k 15) [ true ↦ 3 | false ↦ 8 ] ] ]

-- THE RECORDS, behind any header: "a graph sheet with the number of a first operation record in the place of each block's cost. After the edges
-- come the number of operation records .. and the records, of operation and next, zero ending the chain"
module _ (h : Header) (w : List ℕ) where
  abbrev pub operation_count : ℕ
  operation_count = word w (sheet_length h)

  -- the word at which the records begin
  abbrev pub operations_at : ℕ
  operations_at = suc (sheet_length h)

  abbrev pub operation_length : ℕ
  operation_length = operations_at + 2 * operation_count

  abbrev pub operation_word : ℕ → ℕ
  operation_word e = field w operations_at 2 e 0

  abbrev pub next_operation : ℕ → ℕ
  next_operation e = field w operations_at 2 e 1

  abbrev pub first_operation : ℕ → ℕ
  first_operation v = field w h.records 2 v 0

  -- a block's chain, by record numbers; one more than there are records is enough to see a record twice
  unfoldable pub operations_of : ℕ → List ℕ
  operations_of v = follow next_operation (suc operation_count) (first_operation v)

  -- "each block's cost is its chain's sum"
  unfoldable pub cycle_sum : ℕ → ℕ
  cycle_sum v = sum (map (λ e. cycles_of (operation_word e)) (operations_of v))

  -- 3 "counting the records"; a row that ends before their number is 3
  unfoldable pub wrong_size : Bool
  wrong_size = not (eqb (length w) operation_length)

  -- 42: "more than 4,096 records",
  unfoldable pub many_records : Bool
  many_records = ltb most_operations operation_count

  -- "an operation above 15",
  unfoldable pub large_operation : Bool
  large_operation = any (λ e. ltb most_operation (operation_word e)) (from 1 operation_count)

  -- "a record met twice, missed or out of range", as 7 has it of edges,
  unfoldable pub bad_records : Bool
  bad_records = unsound operation_count (each operations_of (from 1 h.blocks))

  -- "or a block other than 1 and 2 with no operation, or one of those two with any", as 5 has it of costs: a block with an operation has a first one
  unfoldable pub bad_operations : Bool
  bad_operations = many_records || (large_operation || (bad_records || bad_costs h w))

  -- "The converter writes that graph sheet: each block's cost is its chain's sum, and all other words before the number of records stay."
  abbrev pub block_words : ℕ → List ℕ
  block_words n = each (λ v. cycle_sum v ∷ first_word h w v ∷ []) (from 1 n)

  unfoldable pub graph_words : List ℕ
  graph_words = take h.records w ++ block_words h.blocks ++ take (2 * h.edges) (drop (edges_at h) w)

unfoldable pub converted_sheet : List ℕ → List ℕ
converted_sheet w = graph_words (header w) w

-- THE CALL: an operation sheet, and a row for the graph sheet
pub record Converting : Type 0 where
  pub sheet : List ℕ
  pub output : List ℕ

abbrev pub records_order : Order (List ℕ)
records_order = condition 3 wrong_size ∷ []

abbrev pub operations_order : Order (List ℕ)
operations_order = condition 42 bad_operations ∷ []

-- 42 "comes after 8, with 5 left out and 3 counting the records",
unfoldable pub operation_order : Order (List ℕ)
operation_order = length_order ++ counts_order ++ records_order ++ budget_order ++ edge_order ++ operations_order

-- "and 22 follows for the written sheet"
unfoldable pub small_row : Converting → Bool
small_row i = ltb (length i.output) (sheet_length (header i.sheet))

unfoldable pub convert_order : Order Converting
convert_order = over (λ i. i.sheet) operation_order ++ ((22, small_row) ∷ [])

pub record Converted : Type 0 where
  pub answer : ℕ
  pub output : List ℕ

-- "a lent row's words beyond those written are kept"
unfoldable pub convert : List ℕ → List ℕ → Converted
convert w output =
    let a = refused convert_order (record { sheet = w; output = output }) in
    record { answer = a; output = lent_after a output (converted_sheet w ++ drop (length (converted_sheet w)) output) }

-- WHAT THE CONDITIONS LEAVE, behind any header: 2, 3, 6 to 8 and 42
pub record Listed (h : Header) (w : List ℕ) : Type 0 where
  pub recorded : Recorded h w
  pub size : length w ≡ operation_length h w
  pub targets : bad_targets h w ≡ false
  pub chains : bad_chains h w ≡ false
  pub exit : exit_chain h w ≡ false
  pub few : operation_count h w ≤ most_operations
  pub operations : large_operation h w ≡ false
  pub records : bad_records h w ≡ false
  pub firsts : bad_costs h w ≡ false

-- WHAT IT IS FOR

-- 4,096 records of at most 8 cycles
abbrev pub most_cycles : ℕ
most_cycles = 8 * most_operations

-- the cycles of a chain from e on, by the chain alone: none at its end, else those of its first record and of the rest
pub data CycleSum (operation next : ℕ → ℕ) : ℕ → ℕ → Type 0 where
  none : CycleSum operation next 0 0
  more : {e c : ℕ} → CycleSum operation next (next (suc e)) c → CycleSum operation next (suc e) (cycles_of (operation (suc e)) + c)

-- an operation sheet and the graph sheet that it says
pub record Converts (w g : List ℕ) : Type 0 where
  -- the check accepts it,
  pub passes : sheet_refusal g ≡ 0
  pub size : length g ≡ sheet_length (header w)
  -- its header says the same,
  pub head : (header g ≡ header w) × (budgets_in g ≡ budgets_in w)
  -- its costs are the sums of the listed cycles, and fit a word,
  pub sums : (v : ℕ) → 1 ≤ v → v ≤ (header w).blocks
      → CycleSum (operation_word (header w) w) (next_operation (header w) w) (first_operation (header w) w v) (cost_word (header g) g v)
  pub small : (v : ℕ) → cost_word (header g) g v ≤ most_cycles
  -- and its edges are the sheet's
  pub others : ((v : ℕ) → 1 ≤ v → v ≤ (header w).blocks → first_word (header g) g v ≡ first_word (header w) w v)
      × ((e : ℕ) → 1 ≤ e → e ≤ (header w).edges
      → (target_word (header g) g e ≡ target_word (header w) w e) × (next_word (header g) g e ≡ next_word (header w) w e))

abbrev pub ConversionKeeps : Type 0
ConversionKeeps = (w output : List ℕ) → (convert w output).answer ≡ 0
    → ((convert w output).output ≡ converted_sheet w ++ drop (sheet_length (header w)) output) × Converts w (converted_sheet w)
