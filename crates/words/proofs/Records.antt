-- The words of records: those of record i stand before the end of the records up to i.
-- Rests on nothing.
use mathlib.Core.Path.{◌≡◌, sym, ap, ◌∙◌}
use Prim.Native.Nat.{ℕ, suc, ◌+◌, ◌-◌, ◌*◌, ◌≤◌}
use native.Mathlib.Omega.{arith}
use native.Mathlib.Nat.{mul-suc}

-- the words before record i, and its own
pub record-end : (width i : ℕ) → 1 ≤ i → width * i ≡ width * (i - 1) + width
record-end width i p =
    let e : i ≡ suc (i - 1) = omega arith in
    ap (λ (x : ℕ). width * x) e ∙ omega (arith, mul-suc width (i - 1))
