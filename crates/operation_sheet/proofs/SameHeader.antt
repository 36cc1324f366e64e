-- Two rows whose header words are the same: their headers and their budgets are.
-- Rests on formats Versions, GraphSheet and Budgets.
use mathlib.Core.Path.{◌≡◌, refl, sym, ap, ap₂, ◌∙◌}
use mathlib.Core.Bool.{Bool, true, false}
use mathlib.Core.List.{List}
use Prim.Native.Nat.{ℕ, ◌+◌, ◌≤◌, ◌<◌}
use native.Mathlib.Omega.{arith}
use lib.Dec.{eqb}
use lib.ListN.{length, take, drop}
use lib.Seq.{length-take-le, take-add, drop_at}
use Rattle.formats.specs.Words.{word}
use Rattle.formats.specs.Versions.{is_second, budgets_at, budget_count, budgets_in}
use Rattle.formats.specs.GraphSheet.{header_of, header}
use Rattle.formats.proofs.Budgets.{graph-records}

-- THE HEADER says the same where its words are the same
module _ (w g : List ℕ) (same : (i : ℕ) → i < (header w).records → word g i ≡ word w i) where
  header-long : 2 < (header w).records
  unfolding header
  header-long = go (is_second w) refl
    where
      go : (b : Bool) → is_second w ≡ b → 2 < (header w).records
      go true e = rw (e, header) (let r : 2 < 4 + word w 3 = omega arith in r)
      go false e = rw (e, header) (let r : 2 < 3 = omega arith in r)

  second-same : is_second g ≡ is_second w
  unfolding is_second
  second-same = ap (λ (x : ℕ). eqb x 0) (same 0 (omega (arith, header-long)))

  -- the fourth word too, in the second version
  third-same : is_second w ≡ true → word g 3 ≡ word w 3
  unfolding header
  third-same e = same 3 (rw (e, header) (let r : 3 < 4 + word w 3 = omega arith in r))

  pub header-same : header g ≡ header w
  unfolding header
  header-same = go (is_second w) refl
    where
      go : (b : Bool) → is_second w ≡ b → header g ≡ header w
      go true e =
          let o : is_second g ≡ true = second-same ∙ e in
          rw (e, o, header)
          (λ i. header_of (4 + third-same e i) (same 1 (omega (arith, header-long)) i) (same 2 (omega (arith, header-long)) i))
      go false e =
          let o : is_second g ≡ false = second-same ∙ e in
          rw (e, o, header) (λ i. header_of 3 (same 0 (omega (arith, header-long)) i) (same 1 (omega (arith, header-long)) i))

  pub count_same : budget_count g ≡ budget_count w
  unfolding budget_count
  count_same = go (is_second w) refl
    where
      go : (b : Bool) → is_second w ≡ b → budget_count g ≡ budget_count w
      go true e = let o : is_second g ≡ true = second-same ∙ e in rw (e, o, budget_count) (third-same e)
      go false e = let o : is_second g ≡ false = second-same ∙ e in rw (e, o, budget_count)

  at_same : budgets_at g ≡ budgets_at w
  unfolding budgets_at
  at_same = ap (λ (b : Bool). elim b [ true ↦ 4 | false ↦ 2 ]) second-same

  -- and so do the budgets, where the words before the records are there
  part : (a c : ℕ) (l : List ℕ) → a ≤ length l → take c (drop a l) ≡ drop a (take (a + c) l)
  part a c l p = sym (ap (drop a) (take-add a c l) ∙ drop_at (take a l) (take c (drop a l)) a (length-take-le a l p))

  pub budgets-same : (header w).records ≤ length w → (header w).records ≤ length g
      → take (header w).records g ≡ take (header w).records w → budgets_in g ≡ budgets_in w
  unfolding budgets_in
  budgets-same l m e =
      let a = budgets_at w in
      let c = budget_count w in
      let r : (header w).records ≡ a + c = graph-records w in
      ap₂ (λ (c a : ℕ). take c (drop a g)) count_same at_same
      ∙ part a c g (omega arith) ∙ ap (drop a) (ap (λ (k : ℕ). take k g) (sym r) ∙ e ∙ ap (λ (k : ℕ). take k w) r) ∙ sym (part a c w (omega arith))
