-- The cycles of a chain of operations, one after the other.
-- Rests on chains Rest, operation_sheet Operations, CycleSums and Conversion.
use mathlib.Core.Path.{◌≡◌, refl, sym, ap, subst, ◌∙◌}
use mathlib.Core.Logic.{⊎_elim}
use mathlib.Core.List.Memᴰ
use mathlib.Core.List.{List, [], ◌∷◌, map, Memᴰ}
use Prim.Native.Nat.{ℕ, suc, ◌+◌, ◌*◌, ◌≤◌}
use native.Mathlib.Omega.{arith}
use borrow.Author.Tests.{ltb-false}
use lib.Dec.{ltb}
use lib.ListN.{length}
use Rattle.base.specs.Lists.{from, sum}
use Rattle.base.proofs.Truth.{any_false}
use Rattle.base.proofs.Lists.{from-i}
use Rattle.formats.specs.Limits.{most_operation}
use Rattle.formats.specs.Words.{Inside, next_from, targets_from}
use Rattle.formats.specs.GraphSheet.{Header}
use Rattle.operation_sheet.specs.Operations.{cycles_of, operation_count, operations_at, operation_word, next_operation, first_operation, operations_of, cycle_sum}
use Rattle.operation_sheet.specs.Operations.{large_operation, most_cycles, Listed}
use Rattle.operation_sheet.proofs.CycleSums.{sum-most}
use Rattle.operation_sheet.proofs.Conversion.{operation-inside, sum-small}
use Rattle.convert_operations.specs.Small.{Small}

-- THE OPERATIONS of a block: its chain meets records of the sheet alone, and each record has an operation of the table
module _ {h : Header} {w : List ℕ} (L : Listed h w) (v : ℕ) (p : 1 ≤ v) (q : v ≤ h.blocks) where
  pub operations-inside : Inside (next_operation h w) (operation_count h w) (suc (operation_count h w)) (first_operation h w v)
  unfolding operations_of
  operations-inside = record { is-inside = λ x m. (operation-inside L v x p q m).1 }

  operation-fits : (e : ℕ) → Memᴰ e (operations_of h w v) → operation_word h w e ≤ most_operation
  unfolding large_operation
  operation-fits e m =
      let i = operation-inside L v e p q m in
      ltb-false most_operation _
      (any_false (λ e. ltb most_operation (operation_word h w e)) (from 1 (operation_count h w)) L.operations
      (from-i (operation_count h w) 1 e i.0 (omega (arith, i))))

  pub operations-small : Small (map (operation_word h w) (operations_of h w v))
  operations-small = record { fits = go (operations_of h w v) operation-fits }
    where
      go : (es : List ℕ) → ((e : ℕ) → Memᴰ e es → operation_word h w e ≤ most_operation) → (k : ℕ) → Memᴰ k (map (operation_word h w) es) → k ≤ most_operation
      go [] f k m = absurd (Memᴰ.not-nil m)
      go (e ∷ es) f k m = ⊎_elim (λ z. rw z (f e (Memᴰ.head refl))) (λ n. go es (λ x i. f x (Memᴰ.tail i)) k n) (Memᴰ.cases_cons m)

  -- as a chain that begins where the sheet says it
  pub operations-at : {base r e : ℕ} → base ≡ operations_at h w → r ≡ operation_count h w → e ≡ first_operation h w v
      → Inside (next_from w base) r (suc r) e × (targets_from w base (suc r) e ≡ map (operation_word h w) (operations_of h w v))
  unfolding operations_of
  operations-at place count first = rw (place, count, first) (operations-inside, refl)

-- as many cycles, by the operations or by their records
pub sum-words : (operation : ℕ → ℕ) (es : List ℕ) → sum (map cycles_of (map operation es)) ≡ sum (map (λ e. cycles_of (operation e)) es)
unfolding sum
sum-words operation [] = refl
sum-words operation (e ∷ es) = ap (λ (n : ℕ). cycles_of (operation e) + n) (sum-words operation es)

pub sum-whole : {h : Header} {w : List ℕ} (L : Listed h w) (v : ℕ) → 1 ≤ v → v ≤ h.blocks → {n : ℕ} {xs : List ℕ} → n ≡ sum (map cycles_of xs)
    → xs ≡ map (operation_word h w) (operations_of h w v) → (n ≡ cycle_sum h w v) × (n ≤ most_cycles)
unfolding cycle_sum
sum-whole {h} {w} L v p q e f =
    let whole = e ∙ ap (λ (ys : List ℕ). sum (map cycles_of ys)) f ∙ sum-words (operation_word h w) (operations_of h w v) in
    (whole, omega (arith, whole, sum-small L v p q))

-- WHAT IS ADDED UP: so much, and these operations are left
pub record Summing (all : List ℕ) (total : ℕ) (xs : List ℕ) : Type 0 where
  pub rest : total + sum (map cycles_of xs) ≡ sum (map cycles_of all)
  pub small : Small xs

module _ {all : List ℕ} where
  pub sum-start : Small all → Summing all 0 all
  sum-start s = record { rest = omega arith; small = s }

  module _ {total : ℕ} {xs : List ℕ} (S : Summing all total xs) where
    pub sum-fits : total ≤ 8 * length all
    sum-fits = omega (arith, S.rest, sum-most (λ (e : ℕ). e) all)

    pub sum-end : xs ≡ [] → total ≡ sum (map cycles_of all)
    unfolding sum
    sum-end z = let n = ap (λ (ys : List ℕ). sum (map cycles_of ys)) z in omega (arith, S.rest, n)

    module _ {x : ℕ} {ys : List ℕ} (e : xs ≡ x ∷ ys) where
      pub sum-here : x ≤ most_operation
      sum-here = S.small.fits x (subst (Memᴰ x) (sym e) (Memᴰ.head refl))

      pub sum-on : {c : ℕ} → c ≡ cycles_of x → Summing all (total + c) ys
      unfolding sum
      sum-on q =
          let n = ap (λ (zs : List ℕ). sum (map cycles_of zs)) e in
          record { rest = omega (arith, S.rest, n, q); small = record { fits = λ k m. S.small.fits k (subst (Memᴰ k) (sym e) (Memᴰ.tail m)) } }
