-- Demand 2 leaves no loop: along edges of the bounded sheet, from any copy but the start's, the low falls by one at least with each.
-- Rests on specs Construction.
use mathlib.Core.Path.{◌≡◌}
use mathlib.Core.Logic.{◌≢◌}
use mathlib.Core.List.{List, Memᴰ}
use Prim.Native.Nat.{ℕ, zero, suc, ◌+◌, ◌≤◌}
use native.Mathlib.Omega.{arith}
use Rattle.calls.specs.Construction.{IsPlace, copy, edges, Demand2}

module _ (w : List ℕ) (h : ℕ) (t : List ℕ) where
  -- from copy i by k edges, none of the start's, to copy n
  pub data Down (i : ℕ) : ℕ → ℕ → Type 0 where
    here : Down i 0 i
    edge : {k n m : ℕ} → Down i k n → IsPlace w h t n → (copy w h t n).block ≢ 1 → Memᴰ m (edges w h t n) → m ≢ 0 → Down i (suc k) m

  module _ (D : Demand2 w h t) (i : ℕ) where
    pub falls-by : {k n : ℕ} → Down i k n → (copy w h t n).low + k ≤ (copy w h t i).low
    falls-by here = omega arith
    falls-by (edge {n = n} {m = m} d p s o z) = omega (arith, D.falls n m p o z s, falls-by d)

    -- a run through copies of other blocks than the start takes at most as many moves as the first low says
    pub few-moves : {k n : ℕ} → Down i k n → k ≤ (copy w h t i).low
    few-moves d = omega (arith, falls-by d)

    -- and none comes back
    pub no_loop : {k : ℕ} → Down i (suc k) i → ⊥
    no_loop d = omega (arith, falls-by d)
