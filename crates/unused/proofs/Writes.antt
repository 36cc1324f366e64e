-- A mark behind a write: that of the written place, and every other.
-- Rests on specs Marks.
use mathlib.Core.Path.{◌≡◌, ap, ◌∙◌}
use mathlib.Core.Bool.{not}
use mathlib.Core.List.{List}
use Prim.Native.Nat.{ℕ, suc, ◌-◌, ◌≤◌, ◌<◌}
use native.Mathlib.Omega.{arith}
use lib.Dec.{eqb}
use lib.ListN.{length, get_or, set}
use lib.Seq.{get_or-set_same, get_or-set_other}
use Rattle.unused.specs.Marks.{marked}

pub marked-same : (ms : List ℕ) (i x : ℕ) → i < length ms → marked (set ms i x) (suc i) ≡ not (eqb x 0)
unfolding marked
marked-same ms i x l =
    let q : suc i - 1 ≡ i = omega arith in
    ap (λ (j : ℕ). not (eqb (get_or (set ms i x) j 0) 0)) q ∙ ap (λ (y : ℕ). not (eqb y 0)) (get_or-set_same ms i x 0 l)

pub marked_other : (ms : List ℕ) (i x v : ℕ) → 1 ≤ v → (v ≡ suc i → ⊥) → marked (set ms i x) v ≡ marked ms v
unfolding marked
marked_other ms i x v p n =
    let q : v - 1 ≡ i → ⊥ = λ e. n (omega arith) in
    ap (λ (y : ℕ). not (eqb y 0)) (get_or-set_other ms i (v - 1) x 0 q)
