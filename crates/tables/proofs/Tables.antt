-- An area that stands for a graph's completion costs is looked up as the graph itself.
-- Rests on theory Completions and Next, calls Area, specs Tables.
use mathlib.Core.Path.{◌≡◌, ap, ◌∙◌}
use mathlib.Core.List.{List}
use Prim.Native.Nat.{ℕ, suc, ◌-◌, ◌≤◌}
use native.Mathlib.Omega.{arith}
use Rattle.theory.specs.Completions.{Graph, completes, LookUp, look_up, low_of, next_of}
use Rattle.theory.proofs.Completions.{largest-agree}
use Rattle.theory.proofs.Next.{smallest-agree}
use Rattle.calls.specs.Area.{Table}
use Rattle.tables.specs.Tables.{look_in, low_in, next_in, Lows}

module _ {g : Graph} {n b : ℕ} {area : List ℕ} (T : Table g n b area) where
  module _ (v r : ℕ) (p : 1 ≤ v) (q : v ≤ n) (l : r ≤ b) where
    look_in_lem : look_in b area v r ≡ look_up (completes g v) b r
    look_in_lem =
        let low = largest-agree _ _ r (λ c m. T.cells v c p q (omega arith)) in
        let next = smallest-agree _ _ (b - r) (suc r) (λ c k m. T.cells v c p q (omega arith)) in
        λ i. record { low = low i; next = next i }

    pub low-in : low_in b area v r ≡ low_of g v r
    unfolding low_of
    low-in = ap (λ (x : LookUp). x.low) look_in_lem

    pub next-in : next_in b area v r ≡ next_of g b v r
    unfolding next_of
    next-in = ap (λ (x : LookUp). x.next) look_in_lem

  pub lows-of : {lows : List ℕ} → Lows (low_in b area) n b lows → Lows (low_of g) n b lows
  lows-of L = record { room = L.room; cells = λ v r p q l. L.cells v r p q l ∙ low-in v r p q l }
