-- The lines of a row of words: which they are, that they hold every word, and that none is empty.
-- Rests on formats Versions, GraphSheet and BoundedSheet, specs Writing, All.
use mathlib.Core.Path.{◌≡◌, refl, sym, ap, ◌∙◌}
use mathlib.Core.Bool.{Bool, true, false}
use mathlib.Core.List.{List, [], ◌∷◌, ◌++◌}
use Prim.Native.Nat.{ℕ, zero, suc, ◌+◌, ◌*◌, ◌≤◌, ◌<◌}
use native.Mathlib.Nat.{mul-zero, mul-suc}
use native.Mathlib.Omega.{arith}
use lib.Dec.{eqb}
use lib.ListN.{length, replicate}
use borrow.Author.Tests.{eqb-true, eq-eqb, ne_eqb}
use Rattle.formats.specs.Limits.{least_words}
use Rattle.formats.specs.Versions.{is_second}
use Rattle.formats.specs.GraphSheet.{Header, header, sheet_length}
use Rattle.formats.specs.BoundedSheet.{Heading, heading, bounded_length}
use Rattle.decimal.specs.Writing.{records, layout, total}
use Rattle.decimal.proofs.All.{AllOf, all_append, all_replicate}

total-append : (xs ys : List ℕ) → total (xs ++ ys) ≡ total xs + total ys
unfolding total
total-append [] ys = omega arith
total-append (x ∷ xs) ys = omega (arith, total-append xs ys)

pub total-replicate : (k n : ℕ) → total (replicate n k) ≡ k * n
unfolding total
total-replicate k zero = sym (mul-zero k)
total-replicate k (suc n) = omega (arith, total-replicate k n, mul-suc k n)

records-total : (h n k e : ℕ) → total (records h n k e) ≡ h + k * n + 2 * e
unfolding total records
records-total h n k e =
    omega (arith, total-append (replicate n k) (replicate e 2), total-replicate k n, total-replicate 2 e)

abbrev pub Filled : List ℕ → Type 0
Filled ks = AllOf (λ k. 1 ≤ k) ks

records-filled : (h n k e : ℕ) → 1 ≤ h → 1 ≤ k → Filled (records h n k e)
unfolding AllOf records
records-filled h n k e p l = (
  p,
  all_append (λ k. 1 ≤ k) (replicate n k) (replicate e 2) (all_replicate (λ k. 1 ≤ k) n k l)
      (all_replicate (λ k. 1 ≤ k) e 2 (omega arith)),
)

module _ (ws : List ℕ) where
  -- WHICH LAYOUT

  -- no header, in either version, is shorter than the least words of a sheet
  pub header-least : least_words ≤ (header ws).records
  unfolding header
  header-least = go (is_second ws) refl
    where
      go : (v : Bool) → is_second ws ≡ v → least_words ≤ (header ws).records
      go true e = rw (e, header) (omega arith)
      go false e = rw (e, header) (omega arith)

  pub heading-least : least_words ≤ (heading ws).records
  unfolding heading
  heading-least = go (is_second ws) refl
    where
      go : (v : Bool) → is_second ws ≡ v → least_words ≤ (heading ws).records
      go true e = rw (e, heading) (omega arith)
      go false e = rw (e, heading) (omega arith)

  module _ {g : Header} (p : g ≡ header ws) where
    pub layout-graph : length ws ≡ sheet_length g → layout ws ≡ records g.records g.blocks 2 g.edges
    unfolding layout
    layout-graph l =
        rw (eq-eqb (length ws) (sheet_length (header ws)) (l ∙ ap (λ (h : Header). sheet_length h) p), layout)
        (ap (λ (h : Header). records h.records h.blocks 2 h.edges) (sym p))

    module _ (n : length ws ≡ sheet_length g → ⊥) {k : Heading} (q : k ≡ heading ws) where
      no-graph : eqb (length ws) (sheet_length (header ws)) ≡ false
      no-graph = ne_eqb _ _ (λ x. n (x ∙ ap (λ (h : Header). sheet_length h) (sym p)))

      pub layout-bounded : length ws ≡ bounded_length k → layout ws ≡ records k.records k.copies 3 k.edges
      unfolding layout
      layout-bounded l =
          rw (no-graph, eq-eqb (length ws) (bounded_length (heading ws)) (l ∙ ap (λ (h : Heading). bounded_length h) q), layout)
          (ap (λ (h : Heading). records h.records h.copies 3 h.edges) (sym q))

      pub layout-other : (length ws ≡ bounded_length k → ⊥) → layout ws ≡ replicate (length ws) 1
      unfolding layout
      layout-other m =
          rw (no-graph, ne_eqb (length ws) (bounded_length (heading ws)) (λ x. m (x ∙ ap (λ (h : Heading). bounded_length h) (sym q))), layout)

  pub layout-short : length ws < least_words → layout ws ≡ replicate (length ws) 1
  layout-short l = layout-other refl (λ x. omega (arith, header-least)) refl (λ x. omega (arith, heading-least))

  -- WHAT ALL LAYOUTS HAVE

  each_layout : (P : List ℕ → Type 0)
      → ((h n k e : ℕ) → 1 ≤ h → 1 ≤ k → length ws ≡ h + k * n + 2 * e → P (records h n k e)) → P (replicate (length ws) 1) → P (layout ws)
  unfolding layout
  each_layout P f g = go (eqb (length ws) (sheet_length (header ws))) refl (eqb (length ws) (bounded_length (heading ws))) refl
    where
      go : (a : Bool) → eqb (length ws) (sheet_length (header ws)) ≡ a → (b : Bool) → eqb (length ws) (bounded_length (heading ws)) ≡ b → P (layout ws)
      go true x b y = rw (x, layout) (f _ _ 2 _ (omega (arith, header-least)) (omega arith) (eqb-true (length ws) (sheet_length (header ws)) x))
      go false x true y =
          rw (x, y, layout) (f _ _ 3 _ (omega (arith, heading-least)) (omega arith) (eqb-true (length ws) (bounded_length (heading ws)) y))
      go false x false y = rw (x, y, layout) g

  pub layout-total : total (layout ws) ≡ length ws
  layout-total =
      each_layout (λ ks. total ks ≡ length ws) (λ h n k e p l q. records-total h n k e ∙ sym q)
      (let t = total-replicate 1 (length ws) in omega arith)

  pub layout-filled : Filled (layout ws)
  layout-filled =
      each_layout Filled (λ h n k e p l q. records-filled h n k e p l) (all_replicate (λ k. 1 ≤ k) (length ws) 1 (omega arith))
