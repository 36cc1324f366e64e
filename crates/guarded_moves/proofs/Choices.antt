-- The chosen successor of a block, found in the list of its successors by its number.
-- Rests on base Truth, Lists and Orders, graph_row Successors.
use mathlib.Core.Path.{◌≡◌, refl, sym, ap, subst, ◌∙◌}
use mathlib.Core.Logic.{◌⊎◌, inl, inr, ⊎_elim}
use mathlib.Core.Bool.{Bool, true, false}
use mathlib.Core.List.{List, [], ◌∷◌}
use mathlib.Core.Option.{some}
use Prim.Native.Nat.{ℕ, zero, suc, ◌-◌, ◌≤◌, ◌<◌}
use native.Mathlib.Omega.{arith}
use borrow.Author.Tests.{ltb-true}
use lib.Dec.{ltb}
use lib.ListN.{length, get_or}
use Rattle.base.specs.Lists.{chosen, nth}
use Rattle.base.specs.Checks.{outside}
use Rattle.base.proofs.Truth.{or-e}
use Rattle.base.proofs.Lists.{chosen-mem}
use Rattle.base.proofs.Orders.{inside_of}
use Rattle.graph_row.specs.GraphRow.{blocks_in, graph_in, Flat}
use Rattle.graph_row.proofs.Successors.{successor-fits}

chosen-get : (xs : List ℕ) (i : ℕ) → i < length xs → chosen xs (suc i) ≡ some (get_or xs i 0)
unfolding chosen
chosen-get [] i l = absurd (omega (arith, l))
chosen-get (x ∷ xs) zero l = refl
chosen-get (x ∷ xs) (suc i) l = chosen-get xs i (omega (arith, l))

chosen-nth : (xs : List ℕ) (k : ℕ) → (1 ≤ k) × (k ≤ length xs) → chosen xs k ≡ some (nth xs k)
chosen-nth xs k p =
    let e : suc (k - 1) ≡ k = omega (arith, p.0) in
    subst (λ (j : ℕ). chosen xs j ≡ some (nth xs k)) e (chosen-get xs (k - 1) (omega (arith, p.0, p.1)))

-- block u has the successors xs, and o tells whether the choice k is outside them
module _ {row : List ℕ} (F : Flat row) (u k : ℕ) {xs : List ℕ} (e : xs ≡ (graph_in row).next u) {o : Bool} (q : o ≡ outside 1 (length xs) k) where
  pub no-choice : o ≡ true → (k ≡ 0) ⊎ (length ((graph_in row).next u) < k)
  unfolding outside
  no-choice h =
      let l : length xs ≡ length ((graph_in row).next u) = ap length e in
      ⊎_elim (λ x. inl (omega (arith, ltb-true k 1 x))) (λ x. inr (omega (arith, ltb-true (length xs) k x, l)))
      (or-e (ltb k 1) (ltb (length xs) k) (sym q ∙ h))

  module _ (h : o ≡ false) where
    pub choice-fits : (1 ≤ k) × (k ≤ length xs)
    choice-fits = inside_of 1 (length xs) k (sym q ∙ h)

    -- t is the chosen one
    module _ {t : ℕ} (r : t ≡ nth xs k) where
      pub choice-is : chosen ((graph_in row).next u) k ≡ some t
      choice-is = subst (λ (ys : List ℕ). chosen ys k ≡ some t) e (chosen-nth xs k choice-fits ∙ ap some (sym r))

      pub target-fits : (1 ≤ t) × (t ≤ blocks_in row)
      target-fits = let b = successor-fits F u t (chosen-mem _ k t choice-is) in (omega (arith, b.0), b.1)
