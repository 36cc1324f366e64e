-- RULE 11, clause by clause in the order of the table and behind it those of document 02, K2; the call that hands out the edge words of one copy.
-- Rests on base Lists, Copy and Checks, Limits, Versions, BoundedSheet.
use Rattle.std.specs.Prelude.{◌≡◌, Bool, false, ◌&&◌, ◌||◌, not, List, [], ◌∷◌, ◌++◌, ℕ, zero, suc, ◌-◌, ◌≤◌, ltb, eqb, length}
use Rattle.base.specs.Lists.{any, keep, each, from, member, equal, last_of, nth}
use Rattle.base.specs.Copy.{before}
use Rattle.base.specs.Checks.{Order, refused, over, outside}
use Rattle.formats.specs.Limits.{least_words, most_blocks, least_copies, most_copies, least_bounded_edges, most_bounded_edges}
use Rattle.formats.specs.Versions.{budgets_in, bad_budget, bad_budgets}
use Rattle.formats.specs.BoundedSheet.{Heading, heading, entries_in, bounded_length, block_at, low_at, first_at, target_at, copy_at, chain_at}
use Rattle.formats.specs.BoundedSheet.{part_start, edge_part}

-- "under 3 words"
unfoldable pub too_short : List ℕ → Bool
too_short s = ltb (length s) least_words

-- the other clauses, for any header: h is what it says
module _ (h : Heading) (s : List ℕ) where
  -- "limits"
  unfoldable pub bad_limits : Bool
  bad_limits = outside least_copies most_copies h.copies || outside least_bounded_edges most_bounded_edges h.edges

  -- "exactly 3 + 3C + 2F words"; "3, 11 and 22 count the new header"
  unfoldable pub wrong_length : Bool
  wrong_length = not (eqb (length s) (bounded_length h))

  -- "block 1 to 128"
  unfoldable pub bad_blocks : Bool
  bad_blocks = any (λ i. outside 1 most_blocks (block_at h s i)) (from 1 h.copies)

  -- "low at most B"; "the low limit go[es] by the largest budget"
  unfoldable pub bad_lows : Bool
  bad_lows = any (λ i. ltb h.largest (low_at h s i)) (from 1 h.copies)

  -- "copy order": each copy stands before the next, by block, then low
  unfoldable pub bad_copy_order : Bool
  bad_copy_order = any (λ i. not (before (copy_at h s i) (copy_at h s (suc i)))) (from 1 (h.copies - 1))

  -- the copies of a block, by their numbers
  unfoldable pub copies_of : ℕ → List ℕ
  copies_of v = keep (λ i. eqb (block_at h s i) v) (from 1 h.copies)

  -- "one copy each of blocks 1 and 2", of which block 1 is left to its entries (see below)
  unfoldable pub not_one_of : ℕ → Bool
  not_one_of v = not (eqb (length (copies_of v)) 1)

  -- "the exit's low 0 and chain empty"
  unfoldable pub bad_exit : Bool
  bad_exit = any (λ i. not (eqb (low_at h s i) 0 && eqb (first_at h s i) 0)) (copies_of 2)

  -- "edge order with every edge used": following the chains, copy by copy, meets the edges 1, 2, .., F, in this order
  unfoldable pub bad_edge_order : Bool
  bad_edge_order = not (equal (each (chain_at h s) (from 1 h.copies)) (from 1 h.edges))

  -- the number of start copies, those of block 1
  unfoldable pub start_count : ℕ
  start_count = length (copies_of 1)

  -- "targets 0 or 2 to C"; "Targets never name a start copy", so they are behind them all
  unfoldable pub bad_target_words : Bool
  bad_target_words = any (λ e. not (eqb (target_at h s e) 0) && outside (suc start_count) h.copies (target_at h s e)) (from 1 h.edges)

  -- "each entry 0 or a copy of block 1 with a low within its budget", of a budget b and its entry e
  unfoldable pub entry_fits : ℕ → ℕ → Bool
  entry_fits b e = eqb e 0 || (not (outside 1 h.copies e) && (eqb (block_at h s e) 1 && not (ltb b (low_at h s e))))

  module _ (bs es : List ℕ) where
    unfoldable pub bad_entries : Bool
    bad_entries = any (λ k. not (entry_fits (nth bs k) (nth es k))) (from 1 (length bs))

    -- "the last not 0"
    unfoldable pub no_last_entry : Bool
    no_last_entry = eqb (last_of es) 0

    -- "and every start copy named"
    unfoldable pub unnamed_start : Bool
    unnamed_start = any (λ i. not (member i es)) (copies_of 1)

-- a clause behind the header, and one on its entries
abbrev pub clause : (Heading → List ℕ → Bool) → ℕ × (List ℕ → Bool)
clause f = (11, λ s. f (heading s) s)

abbrev pub entry_clause : (Heading → List ℕ → List ℕ → List ℕ → Bool) → ℕ × (List ℕ → Bool)
entry_clause f = (11, λ s. f (heading s) s (budgets_in s) (entries_in s))

-- "B at most 500", of each budget, and "1 to 4 strictly rising budgets" are bad_budget and bad_budgets. A sheet of the first version, with its one
-- budget and the entry 1, keeps the clauses on entries exactly where it has one copy of block 1 (proofs FirstVersion)
unfoldable pub bounded_order : Order (List ℕ)
bounded_order =
    (11, too_short) ∷ clause bad_limits ∷ clause wrong_length ∷ (11, bad_budget) ∷ (11, bad_budgets)
    ∷ clause bad_blocks ∷ clause bad_lows ∷ clause bad_copy_order
    ∷ clause (λ h s. not_one_of h s 2) ∷ clause bad_exit ∷ clause bad_edge_order ∷ clause bad_target_words
    ∷ entry_clause bad_entries ∷ entry_clause no_last_entry ∷ entry_clause unnamed_start ∷ []

unfoldable pub bounded_refusal : List ℕ → ℕ
bounded_refusal s = refused bounded_order s

-- WHAT IT LEAVES, behind any header: a row of the length that the header says, and records that keep the clauses on records
pub record Formed (h : Heading) (s : List ℕ) : Type 0 where
  pub copies : (least_copies ≤ h.copies) × (h.copies ≤ most_copies)
  pub edges : (least_bounded_edges ≤ h.edges) × (h.edges ≤ most_bounded_edges)
  pub size : length s ≡ bounded_length h

pub record Ruled (h : Heading) (s : List ℕ) : Type 0 where
  pub form : Formed h s
  pub blocks : bad_blocks h s ≡ false
  pub lows : bad_lows h s ≡ false
  pub order : bad_copy_order h s ≡ false
  pub two : not_one_of h s 2 ≡ false
  pub exit : bad_exit h s ≡ false
  pub edges : bad_edge_order h s ≡ false
  pub targets : bad_target_words h s ≡ false

-- and budgets and entries that keep theirs
pub record Entered (h : Heading) (s bs es : List ℕ) : Type 0 where
  pub fit : bad_entries h s bs es ≡ false
  pub last : no_last_entry h s bs es ≡ false
  pub named : unnamed_start h s bs es ≡ false

-- HANDING OUT EDGE WORDS: "11, then 33 for a copy outside 1 to C; any refusal there gives an empty part"
pub record CopyIn : Type 0 where
  pub sheet : List ℕ
  pub copy : ℕ

unfoldable pub part_order : Order CopyIn
part_order = over (λ i. i.sheet) bounded_order ++ ((33, λ i. outside 1 (heading i.sheet).copies i.copy) ∷ [])

-- where the part begins, counted from 0, is 0 under a refusal
pub record Part : Type 0 where
  pub answer : ℕ
  pub start : ℕ
  pub words : List ℕ

unfoldable pub hand_out : List ℕ → ℕ → Part
hand_out s i =
    elim (refused part_order (record { sheet = s; copy = i })) [
      | zero ↦ record { answer = 0; start = part_start s i; words = edge_part s i }
      | suc n ↦ record { answer = suc n; start = 0; words = [] }
    ]
