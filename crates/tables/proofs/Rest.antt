-- The marked copies from a cell on, and a loop over the marked cells as a loop over these copies.
-- Rests on base Cells, specs Tables and Scan, Places.
use mathlib.Core.Path.{◌≡◌, refl, sym, ap, ◌∙◌}
use mathlib.Core.Bool.{Bool, true, false, not}
use mathlib.Core.List.{List, [], ◌∷◌}
use Prim.Native.Nat.{ℕ, zero, suc, ◌+◌, ◌-◌, ◌≤◌, ◌<◌}
use native.Mathlib.Omega.{arith}
use borrow.Author.Tests.{eq-eqb, ne_eqb}
use lib.ListN.{length, get_or, drop}
use Rattle.base.specs.Lists.{keep}
use Rattle.base.specs.Copy.{Copy, copy_of}
use Rattle.base.specs.Cells.{cell_count, is_set}
use Rattle.theory.specs.Copies.{candidates}
use Rattle.formats.specs.Limits.{most_blocks, most_budget, most_cells}
use Rattle.cells.specs.Cells.{Within}
use Rattle.tables.specs.Tables.{marked, marked_copies}
use Rattle.tables.specs.Scan.{IsCell, ClearFrom, NextMarked}
use Rattle.tables.proofs.Places.{candidate-here, none-past, code-cell, cell-block}

module _ {A : Type 0} (f : A → Bool) where
  pub keep-yes : (x : A) (xs : List A) → f x ≡ true → keep f (x ∷ xs) ≡ x ∷ keep f xs
  unfolding keep
  keep-yes x xs e = rw (e, keep)

  pub keep-no : (x : A) (xs : List A) → f x ≡ false → keep f (x ∷ xs) ≡ keep f xs
  unfolding keep
  keep-no x xs e = rw (e, keep)

-- THE MARKED COPIES FROM THE CELL i ON
module _ (n b : ℕ) (marks : List ℕ) where
  abbrev is_copy : Copy → Bool
  is_copy c = marked b marks c.block c.low

  unfoldable pub rest : ℕ → List Copy
  rest i = keep is_copy (drop i (candidates n b))

  -- at the start all of them
  pub rest-start : marked_copies n b marks ≡ rest 0
  unfolding rest marked_copies
  rest-start = refl

  -- at the end none
  pub rest_end : (i : ℕ) → i ≡ cell_count n b → rest i ≡ []
  unfolding rest keep
  rest_end i e = ap (λ (j : ℕ). keep is_copy (drop j (candidates n b))) e ∙ ap (keep is_copy) (none-past n b)

  -- the copy of a cell
  module _ (i v l : ℕ) (C : IsCell b i v l) where
    -- is marked where the cell is set
    pub mark_of : marked b marks v l ≡ is_set marks i
    unfolding marked
    mark_of = ap (is_set marks) (sym C.place)

    module _ (h : i < cell_count n b) where
      candidate : drop i (candidates n b) ≡ copy_of v l ∷ drop (suc i) (candidates n b)
      candidate = rw C.place (candidate-here n b v l C.block (cell-block n b i v l C h) C.low)

      pub rest-yes : is_set marks i ≡ true → rest i ≡ copy_of v l ∷ rest (suc i)
      unfolding rest
      rest-yes e = ap (keep is_copy) candidate ∙ keep-yes is_copy (copy_of v l) _ (mark_of ∙ e)

      pub rest-no : is_set marks i ≡ false → rest i ≡ rest (suc i)
      unfolding rest
      rest-no e = ap (keep is_copy) candidate ∙ keep-no is_copy (copy_of v l) _ (mark_of ∙ e)

  -- over cells that are not set
  skip : (k i r : ℕ) → r ≡ i + k → r ≤ cell_count n b → ClearFrom marks i r → rest i ≡ rest r
  unfolding is_set ClearFrom
  skip zero i r e l h = ap rest (omega arith)
  skip (suc k) i r e l h =
      rest-no i _ _ (code-cell b i) (omega arith) (ap not (eq-eqb _ _ (h i (omega arith) (omega arith))))
      ∙ skip k (suc i) r (omega arith) l (λ j p q. h j (omega arith) q)

-- A LOOP over the cells: what it goes by
pub record Scan (n b : ℕ) (marks : List ℕ) (size : ℕ) : Type 0 where
  pub limits : (n ≤ most_blocks) × (b ≤ most_budget)
  pub room : cell_count n b ≤ length marks
  pub cells : size ≡ cell_count n b
  pub few : size ≤ most_cells

-- a cell of the blocks 1 to n
pub record Fits (n b v l : ℕ) : Type 0 where
  pub within : Within b v l
  pub block : (1 ≤ v) × (v ≤ n)

-- a loop over the set cells alone: the next of them is at i, or there is none left
pub record AtCopy (n b : ℕ) (marks : List ℕ) (size i : ℕ) : Type 0 where
  pub scan : Scan n b marks size
  pub upto : i ≤ size
  pub set : i < size → get_or marks i 0 ≡ 0 → ⊥

module _ {n b : ℕ} {marks : List ℕ} {size : ℕ} where
  pub scan-of : (n ≤ most_blocks) × (b ≤ most_budget) → cell_count n b ≤ length marks → (size ≡ cell_count n b) × (size ≤ most_cells)
      → Scan n b marks size
  scan-of p r e = record { limits = p; room = r; cells = e.0; few = e.1 }

  pub cell-fits : Scan n b marks size → {i v l : ℕ} → i < size → IsCell b i v l → Fits n b v l
  cell-fits S {i} {v} {l} h C =
      let k : i < cell_count n b = omega (arith, S.cells) in
      let q = cell-block n b i v l C k in
      record {
        within = record { budget = S.limits.1; block = (C.block, omega (arith, S.limits.0)); cost = C.low };
        block = (C.block, q);
      }

  pub scan-room : Scan n b marks size → size ≤ length marks
  scan-room S = omega (arith, S.cells, S.room)

  -- the first turn
  pub at_first : Scan n b marks size → {r : ℕ} → NextMarked marks size 0 r
      → AtCopy n b marks size r × (marked_copies n b marks ≡ rest n b marks r)
  at_first S {r} X = (
    record { scan = S; upto = X.upto; set = X.set },
    rest-start n b marks ∙ skip n b marks r 0 r (omega arith) (omega (arith, X.upto, S.cells)) X.clear,
  )

  -- each turn is one copy
  module _ {i v l : ℕ} (A : AtCopy n b marks size i) (h : i < size) (C : IsCell b i v l) where
    abbrev S : Scan n b marks size
    S = A.scan

    here : is_set marks i ≡ true
    unfolding is_set
    here = ap not (ne_eqb _ _ (A.set h))

    pub at_copy : marked b marks v l ≡ true
    at_copy = mark_of n b marks i v l C ∙ here

    pub at_here : rest n b marks i ≡ copy_of v l ∷ rest n b marks (suc i)
    at_here = rest-yes n b marks i v l C (omega (arith, S.cells)) here

    pub at_next : {r : ℕ} → NextMarked marks size (i + 1) r → AtCopy n b marks size r × (rest n b marks i ≡ copy_of v l ∷ rest n b marks r)
    unfolding ClearFrom
    at_next {r} X =
        let e : r ≡ suc i + (r - suc i) = omega (arith, X.from) in (
          record { scan = S; upto = X.upto; set = X.set },
          at_here
              ∙ ap (λ (cs : List Copy). copy_of v l ∷ cs)
              (skip n b marks (r - suc i) (suc i) r e (omega (arith, X.upto, S.cells)) (λ j p q. X.clear j (omega arith) q)),
        )

  pub at-end : {i : ℕ} → AtCopy n b marks size i → size ≤ i → rest n b marks i ≡ []
  at-end {i} A h = rest_end n b marks i (omega (arith, A.upto, A.scan.cells))
