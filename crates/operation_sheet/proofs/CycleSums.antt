-- THE CYCLES of an operation and of a chain: at least 1 and at most 8 each, and over a chain that has ended their sum.
-- Rests on formats Chains, specs Operations.
use mathlib.Core.Path.{◌≡◌, ap}
use mathlib.Core.Bool.{Bool, true, false}
use mathlib.Core.List.{List, [], ◌∷◌, map}
use Prim.Native.Nat.{ℕ, zero, suc, ◌*◌, ◌≤◌, ◌<◌}
use native.Mathlib.Omega.{arith}
use lib.Dec.{ltb}
use lib.ListN.{length}
use Rattle.base.specs.Lists.{sum}
use Rattle.formats.specs.Words.{follow}
use Rattle.formats.proofs.Chains.{follow-end}
use Rattle.operation_sheet.specs.Operations.{cycles_of}
use Rattle.operation_sheet.specs.Operations.{CycleSum}

-- AN OPERATION takes at least 1 and at most 8 cycles
pub cycles-fit : (k : ℕ) → (1 ≤ cycles_of k) × (cycles_of k ≤ 8)
unfolding cycles_of
cycles-fit k = go (ltb k 8) (ltb k 12) (ltb k 15)
  where
    go : (a b c : Bool) → (1 ≤ elim a [ true ↦ 1 | false ↦ elim b [ true ↦ 2 | false ↦ elim c [ true ↦ 3 | false ↦ 8 ] ] ])
        × (elim a [ true ↦ 1 | false ↦ elim b [ true ↦ 2 | false ↦ elim c [ true ↦ 3 | false ↦ 8 ] ] ] ≤ 8)
    go true b c = (omega arith, omega arith)
    go false true c = (omega arith, omega arith)
    go false false true = (omega arith, omega arith)
    go false false false = (omega arith, omega arith)

-- THE CYCLES OF A CHAIN
module _ (operation : ℕ → ℕ) where
  abbrev pub sum_of : List ℕ → ℕ
  sum_of es = sum (map (λ e. cycles_of (operation e)) es)

  pub sum-most : (es : List ℕ) → sum_of es ≤ 8 * length es
  unfolding sum
  sum-most [] = omega arith
  sum-most (e ∷ es) = omega (arith, cycles-fit (operation e), sum-most es)

module _ (operation next : ℕ → ℕ) where
  abbrev along : ℕ → ℕ → ℕ
  along k e = sum_of operation (follow next k e)

  -- a chain that has ended has the sum of its records' cycles
  pub chain-sum : (k e : ℕ) → length (follow next k e) < k → CycleSum operation next e (along k e)
  unfolding follow sum
  chain-sum zero e l = absurd (omega arith)
  chain-sum (suc k) zero l = CycleSum.none
  chain-sum (suc k) (suc e) l = CycleSum.more (chain-sum k (next (suc e)) (omega arith))

  -- nothing where it is empty, something else
  pub sum-none : (k e : ℕ) → e ≡ 0 → along k e ≡ 0
  unfolding sum
  sum-none k e z = ap (sum_of operation) (follow-end next k e z)

  pub sum-some : (k e : ℕ) → 1 ≤ e → 1 ≤ along (suc k) e
  unfolding follow sum
  sum-some k zero p = absurd (omega arith)
  sum-some k (suc e) p = omega (arith, cycles-fit (operation (suc e)))
