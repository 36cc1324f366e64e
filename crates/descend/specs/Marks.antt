-- The marks of a descent over the copies of a graph g of the blocks 1 to n, with lows up to b.
-- Rests on base Copy and Cells, theory Completions, formats Limits, tables Tables and Rows.
use Rattle.std.specs.Prelude.{◌≡◌, ◌⊎◌, Bool, true, ℕ, ◌-◌, ◌≤◌, get_or}
use mathlib.Core.List.{List, Memᴰ}
use Rattle.std.proofs.Math.Option.{Option, some}
use Rattle.base.specs.Copy.{Copy, copy_of}
use Rattle.theory.specs.Completions.{Graph, low_of}
use Rattle.tables.specs.Tables.{marked}

-- no mark is set
unfoldable pub Clear : List ℕ → Type 0
Clear marks = (i : ℕ) → get_or marks i 0 ≡ 0

-- the copy of v whose low is that of an option, if there is one, is marked
pub record Met (b : ℕ) (marks : List ℕ) (v : ℕ) (o : Option ℕ) : Type 0 where
  pub is-met : (a : ℕ) → o ≡ some a → marked b marks v a ≡ true

module _ (g : Graph) (b : ℕ) where
  -- the copy that serves r cycles of each successor of v is marked
  pub record AllMet (marks : List ℕ) (v r : ℕ) : Type 0 where
    pub each-met : (t : ℕ) → Memᴰ t (g.next v) → Met b marks t (low_of g t r)

  -- marks stay, and a copy that is newly marked has the copies of its edges marked
  pub record Grown (before after : List ℕ) : Type 0 where
    pub grows : (v l : ℕ) → marked b before v l ≡ true → marked b after v l ≡ true
    pub closed : (v l : ℕ) → 1 ≤ v → l ≤ b → marked b after v l ≡ true
        → (marked b before v l ≡ true) ⊎ AllMet after v (l - g.cost v)

  -- A SET OF COPIES that has with each copy those of its edges
  pub record Closed (S : Copy → Bool) : Type 0 where
    pub onward : (v l t a : ℕ) → S (copy_of v l) ≡ true → Memᴰ t (g.next v) → low_of g t (l - g.cost v) ≡ some a → S (copy_of t a) ≡ true

  -- no copy is marked but those of a set
  pub record Only (S : Copy → Bool) (marks : List ℕ) : Type 0 where
    pub is-in : (v l : ℕ) → 1 ≤ v → l ≤ b → marked b marks v l ≡ true → S (copy_of v l) ≡ true

  -- NOTHING ELSE IS MARKED: a closed set that has the marked copies before, and the copy of v with the low l, has those after
  unfoldable pub FromCopy : ℕ → ℕ → List ℕ → List ℕ → Type 0
  FromCopy v l before after =
      (S : Copy → Bool) → Closed S → S (copy_of v l) ≡ true → Only S before → Only S after

  -- the same for the copies that serve r cycles of the successors of v
  unfoldable pub FromChain : ℕ → ℕ → List ℕ → List ℕ → Type 0
  FromChain v r before after =
      (S : Copy → Bool) → Closed S → ((t a : ℕ) → Memᴰ t (g.next v) → low_of g t r ≡ some a → S (copy_of t a) ≡ true)
      → Only S before → Only S after
