-- The marked cells of a row, one after the other.
-- Rests on base Lists, specs Scan, Rest.
use mathlib.Core.Path.{◌≡◌, refl, sym, ap, ap₂, ◌∙◌}
use mathlib.Core.Bool.{Bool, true, false, not}
use mathlib.Core.List.{List, [], ◌∷◌, map}
use Prim.Native.Nat.{ℕ, zero, suc, ◌+◌, ◌-◌, ◌≤◌, ◌<◌}
use native.Mathlib.Omega.{arith}
use borrow.Author.Tests.{eq-eqb, ne_eqb}
use lib.ListN.{length, get_or, take, length-take}
use lib.Dec.{eqb}
use lib.Seq.{get_or-take}
use Rattle.base.specs.Lists.{keep, from}
use Rattle.base.specs.Cells.{cell_count, is_set}
use Rattle.base.specs.Copy.{Copy}
use Rattle.tables.specs.Tables.{marked_copies}
use Rattle.tables.specs.Scan.{ClearFrom, NextMarked, set_from, copy_at}
use Rattle.tables.proofs.Places.{code-cell}
use Rattle.tables.proofs.Rest.{keep-yes, keep-no, rest, rest-start, rest_end, rest-yes, rest-no}

module _ (marks : List ℕ) where
  unset : (i : ℕ) → get_or marks i 0 ≡ 0 → is_set marks i ≡ false
  unfolding is_set
  unset i e = ap not (eq-eqb _ _ e)

  there : (i : ℕ) → (get_or marks i 0 ≡ 0 → ⊥) → is_set marks i ≡ true
  unfolding is_set
  there i n = ap not (ne_eqb _ _ n)

  -- over cells that are clear
  over : (d i j k n : ℕ) → j ≡ i + d → n ≡ d + k → ClearFrom marks i j → set_from marks i n ≡ set_from marks j k
  unfolding set_from from ClearFrom
  over zero i j k n e f h = let p : i ≡ j = omega arith in let q : n ≡ k = omega arith in ap₂ (set_from marks) p q
  over (suc d) i j k n e f h =
      let p : n ≡ suc (d + k) = omega arith in
      ap (set_from marks i) p ∙ keep-no (is_set marks) i (from (suc i) (d + k)) (unset i (h i (omega arith) (omega arith)))
      ∙ over d (suc i) j k (d + k) (omega arith) (omega arith) (λ x a b. h x (omega arith) b)

  module _ (size i r : ℕ) (X : NextMarked marks size i r) where
    pub set-none : r ≡ size → set_from marks i (size - i) ≡ []
    unfolding set_from from keep
    set-none e = over (r - i) i r 0 (size - i) (omega (arith, X.from)) (omega (arith, X.from)) X.clear

    pub set-first : (r ≡ size → ⊥) → set_from marks i (size - i) ≡ r ∷ set_from marks (r + 1) (size - (r + 1))
    unfolding set_from from
    set-first n =
        let l : r < size = omega (arith, X.upto) in
        let p : suc r ≡ r + 1 = omega arith in
        over (r - i) i r (suc (size - (r + 1))) (size - i) (omega (arith, X.from)) (omega (arith, X.from)) X.clear
        ∙ keep-yes (is_set marks) r (from (suc r) (size - (r + 1))) (there r (X.set l))
        ∙ ap (λ (x : ℕ). r ∷ set_from marks x (size - (r + 1))) p

-- of a row's first cells those of the row
module _ (marks : List ℕ) (n : ℕ) (l : n ≤ length marks) where
  taken : (k i : ℕ) → i + k ≤ n → set_from (take n marks) i k ≡ set_from marks i k
  unfolding set_from from keep is_set
  taken zero i p = refl
  taken (suc k) i p = go (taken k (suc i) (omega arith)) (is_set marks i) refl
    where
      here : is_set (take n marks) i ≡ is_set marks i
      here = ap (λ (x : ℕ). not (eqb x 0)) (get_or-take n marks i 0 (omega arith))

      go : set_from (take n marks) (suc i) k ≡ set_from marks (suc i) k → (x : Bool) → is_set marks i ≡ x → set_from (take n marks) i (suc k) ≡ set_from marks i (suc k)
      go h true e =
          keep-yes (is_set (take n marks)) i (from (suc i) k) (here ∙ e) ∙ ap (λ (xs : List ℕ). i ∷ xs) h
          ∙ sym (keep-yes (is_set marks) i (from (suc i) k) e)
      go h false e = keep-no (is_set (take n marks)) i (from (suc i) k) (here ∙ e) ∙ h ∙ sym (keep-no (is_set marks) i (from (suc i) k) e)

  pub set-taken : (m : ℕ) → n ≡ m → set_from (take n marks) 0 (length (take n marks)) ≡ set_from marks 0 m
  set-taken m e =
      let p : length (take n marks) ≡ m = omega (arith, length-take n marks) in
      ap (set_from (take n marks) 0) p ∙ taken m 0 (omega arith)

-- THE COPIES of marked cells
module _ (n b : ℕ) (marks : List ℕ) where
  from-copies : (k i : ℕ) → i + k ≡ cell_count n b → rest n b marks i ≡ map (copy_at b) (set_from marks i k)
  unfolding set_from from keep
  from-copies zero i e = rest_end n b marks i (omega arith)
  from-copies (suc k) i e = go (from-copies k (suc i) (omega arith)) (is_set marks i) refl
    where
      go : rest n b marks (suc i) ≡ map (copy_at b) (set_from marks (suc i) k) → (x : Bool) → is_set marks i ≡ x
          → rest n b marks i ≡ map (copy_at b) (set_from marks i (suc k))
      go h true t =
          rest-yes n b marks i _ _ (code-cell b i) (omega arith) t ∙ ap (λ (cs : List Copy). copy_at b i ∷ cs) h
          ∙ sym (ap (map (copy_at b)) (keep-yes (is_set marks) i (from (suc i) k) t))
      go h false t =
          rest-no n b marks i _ _ (code-cell b i) (omega arith) t ∙ h
          ∙ sym (ap (map (copy_at b)) (keep-no (is_set marks) i (from (suc i) k) t))

  pub copies-set : marked_copies n b marks ≡ map (copy_at b) (set_from marks 0 (cell_count n b))
  copies-set = rest-start n b marks ∙ from-copies (cell_count n b) 0 (omega arith)
