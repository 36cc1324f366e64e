-- The words of a sheet from a place on, and that copies whose chains follow each other were written from their rows.
-- Rests on base Lists, specs BoundedSheet, Reading.
use mathlib.Core.Path.{◌≡◌, refl, sym, ap, ap₂, subst, ◌∙◌}
use mathlib.Core.List.{List, [], ◌∷◌, ◌++◌, map, append_assoc}
use Prim.Native.Nat.{ℕ, zero, suc, ◌+◌, ◌-◌, ◌*◌, ◌≤◌, ◌<◌}
use native.Mathlib.Omega.{arith}
use lib.ListN.{length, drop, length-map}
use lib.Seq.{drop-cons}
use Rattle.base.specs.Lists.{each, from}
use Rattle.formats.specs.Words.{word, follow}
use Rattle.formats.specs.BoundedSheet.{Row, first_edge, edge_records, copy_words, edge_words, edge_count, Heading}
use Rattle.formats.specs.BoundedSheet.{block_at, low_at, first_at, target_at, next_at, copy_at, chain_at, targets_at}
use Rattle.formats.proofs.Reading.{edge_place}

-- WORDS FROM A PLACE ON

two-words : (s : List ℕ) (n : ℕ) → n + 2 ≤ length s → drop n s ≡ word s (n + 0) ∷ word s (n + 1) ∷ drop (n + 2) s
two-words s n l =
    let p : n + 1 ≡ suc n = omega arith in
    let q : n + 2 ≡ suc (suc n) = omega arith in
    let z : n + 0 ≡ n = omega arith in
    rw (z, p, q) (drop-cons s n 0 (omega arith) ∙ ap (λ (l : List ℕ). word s n ∷ l) (drop-cons s (suc n) 0 (omega arith)))

pub three-words : (s : List ℕ) (n : ℕ) → n + 3 ≤ length s → drop n s ≡ word s (n + 0) ∷ word s (n + 1) ∷ word s (n + 2) ∷ drop (n + 3) s
three-words s n l =
    let q : n + 2 ≡ suc (suc n) = omega arith in
    let r : n + 3 ≡ suc (suc (suc n)) = omega arith in
    two-words s n (omega arith) ∙ ap (λ (l : List ℕ). word s (n + 0) ∷ word s (n + 1) ∷ l) (rw (q, r) (drop-cons s (suc (suc n)) 0 (omega arith)))

-- consecutive numbers fall apart into consecutive numbers
record Parts (a m : ℕ) (xs ys : List ℕ) : Type 0 where
  left : xs ≡ from a (length xs)
  right : ys ≡ from (a + length xs) (m - length xs)
  within : length xs ≤ m

parts : (xs ys : List ℕ) (a m : ℕ) → xs ++ ys ≡ from a m → Parts a m xs ys
unfolding from
parts [] ys a m e =
    let p : a + 0 ≡ a = omega arith in
    let q : m - 0 ≡ m = omega arith in
    record { left = refl; right = rw (p, q) e; within = omega arith }
parts (x ∷ xs) ys a zero e = absurd (let z : ◌≡◌ {A = ℕ} 0 1 = cc in omega arith)
parts (x ∷ xs) ys a (suc m) e =
    let p : x ≡ a = cc in
    let q : xs ++ ys ≡ from (suc a) m = cc in
    let r = parts xs ys (suc a) m q in
    let u : a + suc (length xs) ≡ suc a + length xs = omega arith in
    let v : suc m - suc (length xs) ≡ m - length xs = omega arith in
    record { left = ap₂ (λ y l. y ∷ l) p r.left; right = rw (u, v) r.right; within = omega (arith, r.within) }

module _ (h : Heading) (s : List ℕ) where
  -- a copy and the words of its targets, as the sheet has them
  unfoldable pub row_at : ℕ → Row
  row_at i = record { copy = copy_at h s i; target_words = targets_at h s i }

  unfoldable pub rows : List Row
  rows = map row_at (from 1 h.copies)

  -- a chain of following numbers was written from its targets
  record ChainWas (x e n : ℕ) : Type 0 where
    first : x ≡ first_edge (suc e) (map (target_at h s) (from (suc e) n))
    words : drop (edge_place h s (suc e)) s
        ≡ edge_records (suc e) (map (target_at h s) (from (suc e) n)) ++ drop (edge_place h s (suc e) + 2 * n) s

  chain-was : (n k x e : ℕ) → n < k → follow (next_at h s) k x ≡ from (suc e) n → edge_place h s (suc e) + 2 * n ≤ length s → ChainWas x e n
  unfolding follow from first_edge edge_records
  chain-was n zero x e l q r = absurd (omega arith)
  chain-was zero (suc k) zero e l q r =
      let p : edge_place h s (suc e) + 2 * 0 ≡ edge_place h s (suc e) = omega arith in record { first = refl; words = rw p }
  chain-was zero (suc k) (suc x) e l q r = absurd (let z : ◌≡◌ {A = ℕ} 0 1 = cc in omega arith)
  chain-was (suc n) (suc k) zero e l q r = absurd (let z : ◌≡◌ {A = ℕ} 0 1 = cc in omega arith)
  chain-was (suc n) (suc k) (suc x) e l q r =
      let p : suc x ≡ suc e = cc in
      let t : follow (next_at h s) k (next_at h s (suc x)) ≡ from (suc (suc e)) n = cc in
      let a : edge_place h s (suc (suc e)) ≡ edge_place h s (suc e) + 2 = omega arith in
      let b : edge_place h s (suc e) + 2 * suc n ≡ edge_place h s (suc (suc e)) + 2 * n = omega arith in
      let w = chain-was n k (next_at h s (suc e)) (suc e) (omega arith)
      (subst (λ (y : ℕ). follow (next_at h s) k (next_at h s y) ≡ from (suc (suc e)) n) p t) (omega arith) in
      record {
        first = p;
        words = two-words s (edge_place h s (suc e)) (omega arith)
            ∙ ap₂ (λ y l. target_at h s (suc e) ∷ y ∷ l) w.first (rw (b, ← a) w.words);
      }

  -- copies whose chains are consecutive were written from their rows
  pub record CopiesWere (k i e m : ℕ) : Type 0 where
    pub copies : drop (h.records + 3 * (i - 1)) s ≡ copy_words (suc e) (map row_at (from i k)) ++ drop (h.records + 3 * (i - 1) + 3 * k) s
    pub edges : drop (edge_place h s (suc e)) s ≡ edge_words (suc e) (map row_at (from i k)) ++ drop (edge_place h s (suc e) + 2 * m) s
    pub number : edge_count (map row_at (from i k)) ≡ m

  pub copies-were : (k i e m : ℕ) → 1 ≤ i → each (chain_at h s) (from i k) ≡ from (suc e) m → m ≤ h.edges
      → h.records + 3 * (i - 1) + 3 * k ≤ length s → edge_place h s (suc e) + 2 * m ≤ length s → CopiesWere k i e m
  unfolding each from copy_words edge_words edge_count row_at copy_at targets_at chain_at
  copies-were zero i e zero l q f r t =
      let a : h.records + 3 * (i - 1) + 3 * 0 ≡ h.records + 3 * (i - 1) = omega arith in
      let b : edge_place h s (suc e) + 2 * 0 ≡ edge_place h s (suc e) = omega arith in
      record { copies = rw a; edges = rw b; number = refl }
  copies-were zero i e (suc m) l q f r t = absurd (let z : ◌≡◌ {A = ℕ} 0 1 = cc in omega arith)
  copies-were (suc k) i e m l q f r t =
      let p = parts (chain_at h s i) (each (chain_at h s) (from (suc i) k)) (suc e) m q in
      let n = length (chain_at h s i) in
      let c = chain-was n (suc h.edges) (first_at h s i) e (omega (arith, p.within)) p.left (omega (arith, p.within)) in
      let ts : targets_at h s i ≡ map (target_at h s) (from (suc e) n) = ap (map (target_at h s)) p.left in
      let len : length (targets_at h s i) ≡ n = length-map (chain_at h s i) (target_at h s) in
      let x : suc e + n ≡ suc (e + n) = omega arith in
      let w = copies-were k (suc i) (e + n) (m - n) (omega arith) (rw x at p.right) (omega arith) (omega arith)
      (omega (arith, p.within)) in
      let a₁ : h.records + 3 * (i - 1) + 3 ≡ h.records + 3 * (suc i - 1) = omega arith in
      let a₂ : h.records + 3 * (i - 1) + 3 * suc k ≡ h.records + 3 * (suc i - 1) + 3 * k = omega arith in
      let b₁ : edge_place h s (suc e) + 2 * n ≡ edge_place h s (suc (e + n)) = omega arith in
      let b₂ : edge_place h s (suc e) + 2 * m ≡ edge_place h s (suc (e + n)) + 2 * (m - n) = omega (arith, p.within) in
      let y : suc e + length (targets_at h s i) ≡ suc (e + n) = omega arith in
      record {
        copies = three-words s (h.records + 3 * (i - 1)) (omega arith)
            ∙ ap₂ (λ y l. block_at h s i ∷ low_at h s i ∷ y ∷ l) (c.first ∙ ap (first_edge (suc e)) (sym ts)) (rw (a₁, a₂, y) w.copies);
        edges =
            c.words ∙ ap₂ (λ x l. edge_records (suc e) x ++ l) (sym ts) (rw (b₁, b₂, y) w.edges)
            ∙ sym (append_assoc (edge_records (suc e) (targets_at h s i)) _ _);
        number = omega (arith, w.number, p.within);
      }
