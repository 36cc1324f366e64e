-- The bounded sheet in both versions: the words that rows of copies are written as, and how words are read back (document 01, "Bounded sheet";
-- document 02, K2). Rests on base Lists and Copy, Words, Versions.
use Rattle.std.specs.Prelude.{Bool, true, false, List, [], ◌∷◌, ◌++◌, map, ℕ, suc, ◌+◌, ◌-◌, ◌*◌, length, take, drop}
use Rattle.base.specs.Lists.{last_of}
use Rattle.base.specs.Copy.{Copy}
use Rattle.formats.specs.Words.{word, field, target_from, next_from, edges_from}
use Rattle.formats.specs.Versions.{is_second, budgets_in, largest_in}

-- WRITING

-- a copy, and the words of its targets in chain order, 0 for the exception exit
pub record Row : Type 0 where
  pub copy : Copy
  pub target_words : List ℕ

-- the number of the first edge, where a copy's edges are numbered from e; 0 where it has none
unfoldable pub first_edge : ℕ → List ℕ → ℕ
first_edge e [] = 0
first_edge e (t ∷ ts) = e

-- the edge records of one copy, whose edges are numbered from e: "next is the following number, or 0 at the chain's end"
unfoldable pub edge_records : ℕ → List ℕ → List ℕ
edge_records e [] = []
edge_records e (t ∷ ts) = t ∷ first_edge (suc e) ts ∷ edge_records (suc e) ts

-- "copy records of three words: block, low, first edge"; "Edges are numbered copy by copy in chain order"
unfoldable pub copy_words : ℕ → List Row → List ℕ
copy_words e [] = []
copy_words e (r ∷ rs) = r.copy.block ∷ r.copy.low ∷ first_edge e r.target_words ∷ copy_words (e + length r.target_words) rs

unfoldable pub edge_words : ℕ → List Row → List ℕ
edge_words e [] = []
edge_words e (r ∷ rs) = edge_records e r.target_words ++ edge_words (e + length r.target_words) rs

unfoldable pub edge_count : List Row → ℕ
edge_count [] = 0
edge_count (r ∷ rs) = length r.target_words + edge_count rs

-- the records, behind any header
abbrev pub record_words : List Row → List ℕ
record_words rs = copy_words 1 rs ++ edge_words 1 rs

-- what a header says beside its counts: whether it is of the second version, the budgets, and for each an entry: "An entry word names the start
-- copy for that budget, 0 if nothing fits"
pub record Preface : Type 0 where
  pub second : Bool
  pub budgets : List ℕ
  pub entries : List ℕ

-- "Three words: C copies, F edges, B"; and "0, C, F, that number, the budgets, one entry word each"
unfoldable pub heading_words : Bool → List ℕ → List ℕ → ℕ → ℕ → List ℕ
heading_words true bs es c f = 0 ∷ c ∷ f ∷ length bs ∷ (bs ++ es)
heading_words false bs es c f = c ∷ f ∷ last_of bs ∷ []

-- the header, then the records
unfoldable pub sheet_words : Preface → List Row → List ℕ
sheet_words p rs = heading_words p.second p.budgets p.entries (length rs) (edge_count rs) ++ record_words rs

-- READING

-- what the header says of the records: C copies, F edges, the largest budget, and the word at which they begin, counted from 0
pub record Heading : Type 0 where
  pub copies : ℕ
  pub edges : ℕ
  pub largest : ℕ
  pub records : ℕ

abbrev pub heading_of : ℕ → ℕ → ℕ → ℕ → Heading
heading_of at c f b = record { copies = c; edges = f; largest = b; records = at }

unfoldable pub heading : List ℕ → Heading
heading s = elim (is_second s) [
  | true ↦ heading_of (4 + 2 * word s 3) (word s 1) (word s 2) (largest_in s)
  | false ↦ heading_of 3 (word s 0) (word s 1) (largest_in s)
]

-- the entries; a sheet of the first version has one start copy, its first
unfoldable pub entries_in : List ℕ → List ℕ
entries_in s = elim (is_second s) [ true ↦ take (word s 3) (drop (4 + word s 3) s) | false ↦ 1 ∷ [] ]

abbrev pub preface_in : List ℕ → Preface
preface_in s = record { second = is_second s; budgets = budgets_in s; entries = entries_in s }

-- the length of a sheet with this header, "exactly 3 + 3C + 2F words": the header's words, and the records
abbrev pub bounded_length : Heading → ℕ
bounded_length h = h.records + 3 * h.copies + 2 * h.edges

-- the word at which the edge records begin
abbrev pub edges_at : Heading → ℕ
edges_at h = h.records + 3 * h.copies

-- THE RECORDS, behind any header: h is what it says
module _ (h : Heading) (s : List ℕ) where
  abbrev pub block_at : ℕ → ℕ
  block_at i = field s h.records 3 i 0

  abbrev pub low_at : ℕ → ℕ
  low_at i = field s h.records 3 i 1

  abbrev pub first_at : ℕ → ℕ
  first_at i = field s h.records 3 i 2

  abbrev pub target_at : ℕ → ℕ
  target_at e = target_from s (edges_at h) e

  abbrev pub next_at : ℕ → ℕ
  next_at e = next_from s (edges_at h) e

  unfoldable pub copy_at : ℕ → Copy
  copy_at i = record { block = block_at i; low = low_at i }

  -- a copy's chain, by edge numbers, and its targets
  unfoldable pub chain_at : ℕ → List ℕ
  chain_at i = edges_from s (edges_at h) (suc h.edges) (first_at i)

  unfoldable pub targets_at : ℕ → List ℕ
  targets_at i = map target_at (chain_at i)

-- the edge words of one copy, which stand together: the word at which they begin, counted from 0, and the words
abbrev pub part_start : List ℕ → ℕ → ℕ
part_start s i = let h = heading s in edges_at h + 2 * (first_at h s i - 1)

unfoldable pub edge_part : List ℕ → ℕ → List ℕ
edge_part s i = take (2 * length (chain_at (heading s) s i)) (drop (part_start s i) s)
