-- Chains that are sound together, whatever their records are: no record is met twice or out of range, so each chain stays inside and is short.
-- Rests on base Truth, Lists and Pigeonhole, specs Words.
use mathlib.Core.Path.{◌≡◌}
use mathlib.Core.Bool.{true, false, not}
use mathlib.Core.List.{List, Memᴰ}
use Prim.Native.Nat.{ℕ, ◌≤◌}
use native.Mathlib.Omega.{arith}
use borrow.Author.Tests.{ltb-false, not-false}
use lib.Dec.{ltb}
use lib.ListN.{length}
use Rattle.base.specs.Lists.{any, each, from, distinct}
use Rattle.base.proofs.Truth.{or-false, any_false}
use Rattle.base.proofs.Lists.{from-i, each-i, each-e, Distinct, distinct-part}
use Rattle.base.proofs.Pigeonhole.{distinct-e, pigeonhole}
use Rattle.formats.specs.Words.{unsound}

-- the chains of the numbers 1 to n, by the records 1 to m that they meet; no record is numbered 0
module _ (f : ℕ → List ℕ) (m n : ℕ) (above : (v e : ℕ) → Memᴰ e (f v) → 1 ≤ e) (sound : unsound m (each f (from 1 n)) ≡ false) where
  abbrev all-met : List ℕ
  all-met = each f (from 1 n)

  met-inside : (e : ℕ) → Memᴰ e all-met → e ≤ m
  unfolding unsound
  met-inside e i = ltb-false m e (any_false (λ e. ltb m e) all-met (or-false _ _ sound).0 i)

  met-once : Distinct all-met
  unfolding unsound
  met-once =
      let r = (or-false (any (λ e. ltb m e) all-met) _ sound).1 in
      distinct-e all-met (not-false _ (or-false (not (distinct all-met)) _ r).0)

  -- a record of a chain is one of 1 to m
  pub record-inside : (v e : ℕ) → 1 ≤ v → v ≤ n → Memᴰ e (f v) → (1 ≤ e) × (e ≤ m)
  record-inside v e p q i = (above v e i, met-inside e (each-i f (from 1 n) (from-i n 1 v p (omega arith)) i))

  -- a chain has at most m records
  pub record-short : (v : ℕ) → 1 ≤ v → v ≤ n → length (f v) ≤ m
  record-short v p q =
      pigeonhole m (f v) (distinct-part f (from 1 n) met-once (from-i n 1 v p (omega arith))) (λ e i. record-inside v e p q i)

  -- and all together have
  pub all_short : length all-met ≤ m
  all_short = pigeonhole m all-met met-once (λ e i. let o = each-e f (from 1 n) i in (above o.0 e o.2, met-inside e i))
