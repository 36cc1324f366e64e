-- A cell that is stored into a row has what was stored, and every other cell keeps what it had.
-- Rests on base Cells.
use mathlib.Core.Path.{◌≡◌, ap, ◌∙◌}
use mathlib.Core.List.{List}
use Prim.Native.Nat.{ℕ, ◌≤◌, ◌<◌}
use lib.ListN.{length, get_or, set}
use lib.Seq.{get_or-set_same, get_or-set_other}
use Rattle.base.specs.Cells.{cell_of}
use Rattle.base.proofs.Cells.{one_cell}

module _ (b v c x : ℕ) (old new : List ℕ) (e : new ≡ set old (cell_of b v c) x) where
  pub stored : cell_of b v c < length old → get_or new (cell_of b v c) 0 ≡ x
  stored i = ap (λ (l : List ℕ). get_or l (cell_of b v c) 0) e ∙ get_or-set_same old (cell_of b v c) x 0 i

  pub others-kept : (u d : ℕ) → 1 ≤ u → 1 ≤ v → d ≤ b → c ≤ b → ((u ≡ v) × (d ≡ c) → ⊥)
      → get_or new (cell_of b u d) 0 ≡ get_or old (cell_of b u d) 0
  others-kept u d p q i j n =
      ap (λ (l : List ℕ). get_or l (cell_of b u d) 0) e
      ∙ get_or-set_other old (cell_of b v c) (cell_of b u d) x 0 (λ k. n (one_cell b u d v c p q i j k))
