-- The candidates by their cells: which copy stands at a cell, and which cell a place is.
-- Rests on base Lists and Cells, theory Copies, specs Scan.
use mathlib.Core.Path.{◌≡◌, sym, ap, ap₂, subst, ◌∙◌}
use mathlib.Core.List.{List, [], ◌∷◌, ◌++◌, map}
use Prim.Native.Nat.{ℕ, zero, suc, ◌+◌, ◌-◌, ◌*◌, ◌≤◌, ◌<◌, ◌/◌, ◌%◌}
use native.Mathlib.Nat.{suc-mul, mul-le-mul, mul-le-mul_right, div-add-mod', mod-lt}
use native.Mathlib.Omega.{arith}
use native.Mathlib.Decide.{ℕ_discrete, dec_le, dec_lt}
use native.Mathlib.Numerals.{add-one}
use lib.ListN.{length, get_or, drop, length-map}
use lib.Bits.{bit_or, or_add_and, and_le_l, and_le_r}
use lib.Seq.{drop-append-le, drop-append-add}
use Rattle.base.specs.Lists.{each, from}
use Rattle.base.specs.Copy.{Copy, copy_of}
use Rattle.base.proofs.Lists.{from-length}
use Rattle.theory.specs.Copies.{candidates}
use Rattle.formats.specs.Limits.{most_blocks, most_budget, most_cells}
use Rattle.base.specs.Cells.{cell_of, cell_count}
use Rattle.tables.specs.Scan.{IsCell, ClearFrom}

-- THE CANDIDATES, line by line

line : ℕ → ℕ → List Copy
line k v = map (copy_of v) (from 0 k)

line-length : (k v : ℕ) → length (line k v) ≡ k
unfolding line
line-length k v = length-map (from 0 k) (copy_of v) ∙ from-length k 0

-- in one line, at the cost c
line-here : (v k x c : ℕ) → c < k
    → drop c (map (copy_of v) (from x k)) ≡ copy_of v (x + c) ∷ drop (suc c) (map (copy_of v) (from x k))
unfolding from
line-here v zero x c h = absurd (omega arith)
line-here v (suc k) x zero h = let p : x ≡ x + 0 = omega arith in ap (λ (y : ℕ). copy_of v y ∷ map (copy_of v) (from (suc x) k)) p
line-here v (suc k) x (suc c) h =
    let p : suc x + c ≡ x + suc c = omega arith in
    line-here v k (suc x) c (omega arith) ∙ ap (λ (y : ℕ). copy_of v y ∷ drop (suc c) (map (copy_of v) (from (suc x) k))) p

-- in the i-th of n lines of k
module _ (k : ℕ) where
  lines-here : (n x i c : ℕ) → i < n → c < k
      → drop (i * k + c) (each (line k) (from x n)) ≡ copy_of (x + i) c ∷ drop (suc (i * k + c)) (each (line k) (from x n))
  unfolding each from line
  lines-here zero x i c h l = absurd (omega arith)
  lines-here (suc n) x zero c h l =
      let p : 0 * k + c ≡ c = omega arith in
      let q : x + 0 ≡ x = omega arith in
      let r : 0 + c ≡ c = omega arith in
      let e = line-length k x in
      rw (p, q)
      (drop-append-le c (line k x) _ (omega arith)
      ∙ ap (λ (xs : List Copy). xs ++ each (line k) (from (suc x) n)) (line-here x k 0 c l)
      ∙ ap (λ (y : ℕ). copy_of x y ∷ (drop (suc c) (line k x) ++ each (line k) (from (suc x) n))) r
      ∙ ap (λ (xs : List Copy). copy_of x c ∷ xs) (sym (drop-append-le (suc c) (line k x) _ (omega arith))))
  lines-here (suc n) x (suc i) c h l =
      let e = line-length k x in
      let p : suc i * k + c ≡ length (line k x) + (i * k + c) = omega (arith, suc-mul i k) in
      let r : suc (suc i * k + c) ≡ length (line k x) + suc (i * k + c) = omega arith in
      let q : suc x + i ≡ x + suc i = omega arith in
      ap (λ (j : ℕ). drop j (line k x ++ each (line k) (from (suc x) n))) p
      ∙ drop-append-add (line k x) _ (i * k + c)
      ∙ lines-here n (suc x) i c (omega arith) l
      ∙ ap₂ (λ (j : ℕ) (xs : List Copy). copy_of j c ∷ xs) q (sym (drop-append-add (line k x) _ (suc (i * k + c))))
      ∙ ap (λ (j : ℕ). copy_of (x + suc i) c ∷ drop j (line k x ++ each (line k) (from (suc x) n))) (sym r)

  lines-past : (n x : ℕ) → drop (n * k) (each (line k) (from x n)) ≡ []
  unfolding each from line
  lines-past zero x = let p : 0 * k ≡ 0 = omega arith in rw p
  lines-past (suc n) x =
      let p : suc n * k ≡ length (line k x) + n * k = omega (arith, suc-mul n k, line-length k x) in
      ap (λ (j : ℕ). drop j (line k x ++ each (line k) (from (suc x) n))) p
      ∙ drop-append-add (line k x) _ (n * k) ∙ lines-past n (suc x)

pub candidate-here : (n b v l : ℕ) → 1 ≤ v → v ≤ n → l ≤ b
    → drop (cell_of b v l) (candidates n b) ≡ copy_of v l ∷ drop (suc (cell_of b v l)) (candidates n b)
unfolding candidates cell_of line
candidate-here n b v l p q s =
    let e : 1 + (v - 1) ≡ v = omega arith in
    lines-here (suc b) n 1 (v - 1) l (omega arith) (omega arith)
    ∙ ap (λ (x : ℕ). copy_of x l ∷ drop (suc ((v - 1) * suc b + l)) (candidates n b)) e

pub none-past : (n b : ℕ) → drop (cell_count n b) (candidates n b) ≡ []
unfolding candidates cell_count line
none-past n b = lines-past (suc b) n 1

-- THE CELL OF A PLACE

-- as the code computes it
pub code-cell : (b i : ℕ) → IsCell b i (i / (b + 1) + 1) (i % (b + 1))
unfolding cell_of
code-cell b i =
    let z : i / suc b + 1 - 1 ≡ i / suc b = omega arith in
    let r : i % suc b < suc b = mod-lt i (omega arith) in
    subst (λ (k : ℕ). IsCell b i (i / k + 1) (i % k)) (sym (add-one b))
    (record { block = omega arith; low = omega arith; place = rw z (sym (div-add-mod' i (suc b))) })

-- a cell inside is that of a block
pub cell-block : (n b i v l : ℕ) → IsCell b i v l → i < cell_count n b → v ≤ n
unfolding cell_of cell_count
cell-block n b i v l C h = go (dec_le v n)
  where
    go : Dec (v ≤ n) → v ≤ n
    go (yes q) = q
    go (no q) = absurd (omega (arith, C.place, mul-le-mul_right {m = n} {n = v - 1} (suc b) (omega arith)))

-- there are at most most_cells cells
pub few-cells : (n b : ℕ) → n ≤ most_blocks → b ≤ most_budget → n * (b + 1) ≤ most_cells
few-cells n b p q = mul-le-mul {n₁ = n} {m₁ = b + 1} {n₂ = most_blocks} {m₂ = suc most_budget} p (omega arith)

pub count_code : (n b : ℕ) → n * (b + 1) ≡ cell_count n b
unfolding cell_count
count_code n b = rw add-one

-- CELLS THAT ARE CLEAR: none, one more, those of two stretches, eight whose bits together are 0
pub clear_none : (m : List ℕ) (i j : ℕ) → j ≤ i → ClearFrom m i j
unfolding ClearFrom
clear_none m i j l x p q = absurd (omega arith)

module _ (m : List ℕ) where
  pub clear-more : (i j : ℕ) → ClearFrom m i j → get_or m j 0 ≡ 0 → ClearFrom m i (j + 1)
  unfolding ClearFrom
  clear-more i j h e x p q = go (ℕ_discrete x j)
    where
      go : Dec (x ≡ j) → get_or m x 0 ≡ 0
      go (yes z) = ap (λ (k : ℕ). get_or m k 0) z ∙ e
      go (no n) = h x p (omega arith)

  pub clear_both : (i j : ℕ) {k n : ℕ} → ClearFrom m i j → ClearFrom m j k → n ≡ k → ClearFrom m i n
  unfolding ClearFrom
  clear_both i j g h e x p q = go (dec_lt x j)
    where
      go : Dec (x < j) → get_or m x 0 ≡ 0
      go (yes l) = g x p l
      go (no l) = h x (omega arith) (omega arith)

-- no bits together, none in either
pub or-none : (a b : ℕ) → bit_or a b ≡ 0 → (a ≡ 0) × (b ≡ 0)
or-none a b e =
    let s = or_add_and a b in
    (omega (arith, s, and_le_r a b), omega (arith, s, and_le_l a b))

abbrev Zero : List ℕ → ℕ → Type 0
Zero m i = get_or m i 0 ≡ 0

abbrev bits : (a b c d : ℕ) → ℕ
bits a b c d = bit_or (bit_or (bit_or a b) c) d

pub clear-eight : (m : List ℕ) (j : ℕ)
    → bit_or (bits (get_or m j 0) (get_or m (j + 1) 0) (get_or m (j + 2) 0) (get_or m (j + 3) 0))
    (bits (get_or m (j + 4) 0) (get_or m (j + 5) 0) (get_or m (j + 6) 0) (get_or m (j + 7) 0)) ≡ 0
    → ClearFrom m j (j + 8)
unfolding ClearFrom
clear-eight m j e x p q =
    let s : x ≡ j + (x - j) = omega arith in
    let h = or-none _ _ e in
    let h₀ = four _ _ _ _ h.0 in
    let h₁ = four _ _ _ _ h.1 in
    ap (λ (i : ℕ). get_or m i 0) s ∙ at h₀ h₁ (x - j) (omega arith)
  where
    four : (a b c d : ℕ) → bits a b c d ≡ 0 → (a ≡ 0) × (b ≡ 0) × (c ≡ 0) × (d ≡ 0)
    four a b c d e =
        let p = or-none _ d e in
        let q = or-none _ c p.0 in
        let r = or-none a b q.0 in
        (r.0, r.1, q.1, p.1)

    at : Zero m j × Zero m (j + 1) × Zero m (j + 2) × Zero m (j + 3) → Zero m (j + 4) × Zero m (j + 5) × Zero m (j + 6) × Zero m (j + 7)
        → (d : ℕ) → d < 8 → Zero m (j + d)
    at u w zero l = let z : j + 0 ≡ j = omega arith in rw z u.0
    at u w (suc zero) l = u.1
    at u w (suc (suc zero)) l = u.2
    at u w (suc (suc (suc zero))) l = u.3
    at u w (suc (suc (suc (suc zero)))) l = w.0
    at u w (suc (suc (suc (suc (suc zero))))) l = w.1
    at u w (suc (suc (suc (suc (suc (suc zero)))))) l = w.2
    at u w (suc (suc (suc (suc (suc (suc (suc zero))))))) l = w.3
    at u w (suc (suc (suc (suc (suc (suc (suc (suc d)))))))) l = absurd (omega arith)
