-- The test of a completion cost is exactly the completions, the look-up gives the largest, and the key lemma of the construction.
-- Rests on base Truth, specs Completions and Setting.
use mathlib.Core.Path.{◌≡◌, refl, sym, ap, subst, ◌∙◌}
use mathlib.Core.Logic.{◌⊎◌, inl, inr, ◌≢◌, ◌↔◌}
use mathlib.Core.Bool.{Bool, true, false, ◌&&◌}
use mathlib.Core.List.Memᴰ
use mathlib.Core.List.{Memᴰ}
use mathlib.Core.Option.{Option, some, none, none-ne-some, some-ne-none, some-injective}
use Prim.Native.Nat.{ℕ, zero, suc, ◌+◌, ◌-◌, ◌≤◌}
use native.Mathlib.Omega.{arith}
use native.Mathlib.Nat.{le_refl}
use native.Mathlib.Decide.{dec_le}
use borrow.Author.Tests.{leb-true, le-leb, eqb-true}
use lib.Dec.{leb, eqb}
use Rattle.base.specs.Lists.{any, from}
use Rattle.base.proofs.Lists.{from-i}
use Rattle.base.proofs.Truth.{not-both, else-false, and_i, and-e, or_r, or-e, any-i, any-e}
use Rattle.theory.specs.Completions.{Graph, Completion, exit, step, IsLow, NoLow, within, completes, largest, low_of, fits}
use Rattle.theory.specs.Setting.{WellFormed}

pub away : {g : Graph} → WellFormed g → (v t : ℕ) → Memᴰ t (g.next v) → t ≢ 1
away L v t m e = omega (arith, L.above v t m)

module _ (g : Graph) where
  -- the test's two cases
  onward : ℕ → ℕ → ℕ → Bool
  onward k v c = leb (g.cost v) c && any (λ t. within g k t (c - g.cost v)) (g.next v)

  at_exit : (v c : ℕ) → (eqb v 2 && eqb c 0) ≡ true → Completion g v c
  at_exit v c p =
      let e = and-e (eqb v 2) (eqb c 0) p in
      subst (λ (n : ℕ). Completion g n c) (sym (eqb-true v 2 e.0)) (subst (λ (n : ℕ). Completion g 2 n) (sym (eqb-true c 0 e.1)) exit)

  within-sound : (k v c : ℕ) → within g k v c ≡ true → Completion g v c
  unfolding within onward
  within-sound zero v c p = at_exit v c p
  within-sound (suc k) v c p = go (λ t d. within-sound k t (c - g.cost v) d) (or-e (eqb v 2 && eqb c 0) (onward k v c) p)
    where
      go : ((t : ℕ) → within g k t (c - g.cost v) ≡ true → Completion g t (c - g.cost v))
          → ((eqb v 2 && eqb c 0) ≡ true) ⊎ (onward k v c ≡ true) → Completion g v c
      go below (inl q) = at_exit v c q
      go below (inr q) =
          let e = and-e (leb (g.cost v) c) _ q in
          let m = any-e (λ t. within g k t (c - g.cost v)) (g.next v) e.1 in
          let q : c ≡ g.cost v + (c - g.cost v) = omega (arith, leb-true (g.cost v) c e.0) in
          step m.1 (below m.0 m.2) q

  module _ (L : WellFormed g) where
    -- one edge more: where the rest is found by k edges, the whole is by k + 1
    longer : (k c d : ℕ) {v t : ℕ} → Memᴰ t (g.next v) → d ≡ g.cost v + c → within g k t c ≡ true → within g (suc k) v d ≡ true
    unfolding within onward
    longer k c d {v} {t} m e p =
        let q : d - g.cost v ≡ c = omega arith in
        or_r (eqb v 2 && eqb d 0)
        (and_i (le-leb (g.cost v) d (omega arith)) (any-i (λ t. within g k t (d - g.cost v)) m (rw q p)))

    -- from any block but the start, a path has at most as many edges as it costs
    within-complete : {v c : ℕ} → Completion g v c → v ≢ 1 → (k : ℕ) → c ≤ k → within g k v c ≡ true
    unfolding within
    within-complete exit n zero h = refl
    within-complete exit n (suc k) h = refl
    within-complete (step {v = v} {t = t} m r e) n zero h = absurd (omega (arith, L.paid v t m n))
    within-complete (step {v = v} {t = t} {c = c} {n = d} m r e) n (suc k) h =
        longer k c d m e (within-complete r (away L v t m) k (omega (arith, L.paid v t m n)))

    -- THE TEST IS EXACTLY THE COMPLETIONS
    pub completes-sound : (v c : ℕ) → completes g v c ≡ true → Completion g v c
    unfolding completes
    completes-sound v c p = within-sound (suc c) v c p

    pub completes-complete : {v c : ℕ} → Completion g v c → completes g v c ≡ true
    unfolding completes within
    completes-complete exit = refl
    completes-complete (step {v = v} {t = t} {c = c} {n = d} m r e) = longer d c d m e (within-complete r (away L v t m) d (omega arith))

-- THE LARGEST NUMBER UP TO r THAT PASSES A TEST
module _ (f : ℕ → Bool) where
  pub record IsLargest (r a : ℕ) : Type 0 where
    pub passes : f a ≡ true
    pub below : a ≤ r
    pub most : (c : ℕ) → f c ≡ true → c ≤ r → c ≤ a

  data Largest (r : ℕ) : Option ℕ → Type 0 where
    found : {a : ℕ} → IsLargest r a → Largest r (some a)
    absent : ((c : ℕ) → f c ≡ true → c ≤ r → ⊥) → Largest r none

  -- a number that fails is not the one that passes
  other : {n : ℕ} → f n ≡ false → (c : ℕ) → f c ≡ true → c ≢ n
  other e c p q = not-both (sym (ap f q) ∙ p) e

  largest-view : (r : ℕ) → Largest r (largest f r)
  unfolding largest
  largest-view zero = go (f zero) refl
    where
      go : (b : Bool) → f zero ≡ b → Largest zero (largest f zero)
      go true e = rw (e, largest) (found (record { passes = e; below = omega arith; most = λ c p h. h }))
      go false e = rw (e, largest) (absent (λ c p h. other e c p (omega arith)))
  largest-view (suc r) = go (f (suc r)) refl (largest-view r)
    where
      lower : f (suc r) ≡ false → (c : ℕ) → f c ≡ true → c ≤ suc r → c ≤ r
      lower e c p h = let n = other e c p in omega arith

      step-up : f (suc r) ≡ false → (o : Option ℕ) → Largest r o → Largest (suc r) o
      step-up e none (absent n) = absent (λ c p h. n c p (lower e c p h))
      step-up e (some a) (found w) =
          found (record { passes = w.passes; below = omega (arith, w.below); most = λ c p h. w.most c p (lower e c p h) })

      go : (b : Bool) → f (suc r) ≡ b → Largest r (largest f r) → Largest (suc r) (largest f (suc r))
      go true e v = rw (e, largest) (found (record { passes = e; below = omega arith; most = λ c p h. h }))
      go false e v = rw (e, largest) (step-up e (largest f r) v)

  pub largest-some : (r a : ℕ) → largest f r ≡ some a → IsLargest r a
  largest-some r a e = go (largest f r) (largest-view r) e
    where
      go : (o : Option ℕ) → Largest r o → o ≡ some a → IsLargest r a
      go none (absent n) q = absurd (none-ne-some a q)
      go (some b) (found w) q = subst (IsLargest r) (some-injective b a q) w

  pub largest-none : (r : ℕ) → largest f r ≡ none → (c : ℕ) → f c ≡ true → c ≤ r → ⊥
  largest-none r e = go (largest f r) (largest-view r) e
    where
      go : (o : Option ℕ) → Largest r o → o ≡ none → (c : ℕ) → f c ≡ true → c ≤ r → ⊥
      go none (absent n) q = n
      go (some b) (found w) q = absurd (some-ne-none b q)

  -- two bounds between which nothing passes give the same
  pub largest-same : (q p : ℕ) → p ≤ q → ((c : ℕ) → f c ≡ true → c ≤ q → c ≤ p) → largest f q ≡ largest f p
  unfolding largest
  largest-same zero p h n = let e : p ≡ zero = omega arith in rw e
  largest-same (suc q) p h n = go (f (suc q)) refl (largest-same q p)
    where
      skip : Dec (p ≤ q) → f (suc q) ≡ false → (p ≤ q → ((c : ℕ) → f c ≡ true → c ≤ q → c ≤ p) → largest f q ≡ largest f p)
          → largest f (suc q) ≡ largest f p
      skip (yes l) e below = rw (e, largest) (below l (λ c t m. n c t (omega arith)))
      skip (no l) e below = let s : p ≡ suc q = omega arith in rw s

      go : (b : Bool) → f (suc q) ≡ b → (p ≤ q → ((c : ℕ) → f c ≡ true → c ≤ q → c ≤ p) → largest f q ≡ largest f p)
          → largest f (suc q) ≡ largest f p
      go true e below = let s : p ≡ suc q = omega (arith, n (suc q) e (le_refl (suc q))) in rw s
      go false e below = skip (dec_le p q) e below

  -- tests that agree up to r have the same largest number
  pub largest-agree : (h : ℕ → Bool) (r : ℕ) → ((c : ℕ) → c ≤ r → f c ≡ h c) → largest f r ≡ largest h r
  unfolding largest
  largest-agree h zero e = rw (e zero (omega arith), largest)
  largest-agree h (suc r) e = go (h (suc r)) refl (largest-agree h r (λ c l. e c (omega arith)))
    where
      go : (x : Bool) → h (suc r) ≡ x → largest f r ≡ largest h r → largest f (suc r) ≡ largest h (suc r)
      go true p q = rw (e (suc r) (omega arith) ∙ p, p, largest)
      go false p q = rw (e (suc r) (omega arith) ∙ p, p, largest) q

  pub largest-self : (c : ℕ) → f c ≡ true → largest f c ≡ some c
  unfolding largest
  largest-self zero p = rw (p, largest)
  largest-self (suc c) p = rw (p, largest)

-- THE LOOK-UP
module _ (g : Graph) (L : WellFormed g) where
  pub low-some : (v r a : ℕ) → low_of g v r ≡ some a → IsLow g v r a
  unfolding low_of
  low-some v r a e =
      let w = largest-some (completes g v) r a e in
      record { cost = completes-sound g L v a w.passes; below = w.below; most = λ c d h. w.most c (completes-complete g L d) h }

  pub low-none : (v r : ℕ) → low_of g v r ≡ none → NoLow g v r
  unfolding low_of
  low-none v r e c d h = largest-none (completes g v) r e c (completes-complete g L d) h

  -- and back: the look-up finds what there is, and nothing where there is nothing
  pub is-low : {v r a : ℕ} → IsLow g v r a → low_of g v r ≡ some a
  is-low {v} {r} {a} w = go (low_of g v r) refl
    where
      go : (o : Option ℕ) → low_of g v r ≡ o → low_of g v r ≡ some a
      go none e = absurd (low-none v r e a w.cost w.below)
      go (some d) e =
          let x = low-some v r d e in
          let p = w.most d x.cost x.below in
          let q : d ≡ a = omega (arith, x.most a w.cost w.below) in
          e ∙ ap some q

  pub no-low : {v r : ℕ} → NoLow g v r → low_of g v r ≡ none
  no-low {v} {r} n = go (low_of g v r) refl
    where
      go : (o : Option ℕ) → low_of g v r ≡ o → low_of g v r ≡ none
      go none e = e
      go (some a) e = let w = low-some v r a e in absurd (n a w.cost w.below)

  -- WHETHER SOMETHING FITS is whether there is such a completion
  pub fits-i : (b n : ℕ) {v c : ℕ} → Completion g v c → c + n ≤ b → fits g b n v ≡ true
  unfolding fits
  fits-i b n {v} {c} d l =
      any-i (λ c. leb (c + n) b && completes g v c) (from-i (suc b) 0 c (omega arith) (omega arith))
      (and_i (le-leb (c + n) b l) (completes-complete g L d))

  pub fits-e : (b n v : ℕ) → fits g b n v ≡ true → (c : ℕ) × Completion g v c × (c + n ≤ b)
  unfolding fits
  fits-e b n v p =
      let m = any-e (λ c. leb (c + n) b && completes g v c) (from 0 (suc b)) p in
      let e = and-e (leb (m.0 + n) b) (completes g v m.0) m.2 in
      (m.0, completes-sound g L v m.0 e.1, leb-true (m.0 + n) b e.0)

  pub fits_not : (b n v : ℕ) → ((c : ℕ) → Completion g v c → c + n ≤ b → ⊥) → fits g b n v ≡ false
  fits_not b n v empty = else-false (fits g b n v) (λ p. let c = fits-e b n v p in empty c.0 c.1 c.2)

  -- and the look-up below the cycles left tells it, as long as no more is spent than there is
  pub fits-some : (b n v a : ℕ) → n ≤ b → low_of g v (b - n) ≡ some a → fits g b n v ≡ true
  fits-some b n v a h e = let w = low-some v (b - n) a e in fits-i b n w.cost (omega (arith, w.below))

  pub fits-none : (b n v : ℕ) → low_of g v (b - n) ≡ none → fits g b n v ≡ false
  fits-none b n v e = fits_not b n v (λ c d l. low-none v (b - n) e c d (omega arith))

  -- "The exit's only completion costs 0."
  pub exit-cost : {v c : ℕ} → Completion g v c → v ≡ 2 → c ≡ 0
  exit-cost exit e = refl
  exit-cost (step {t = t} m r q) e = absurd (Memᴰ.not-nil (subst (Memᴰ t) (ap g.next e ∙ L.closed) m))

  -- the cost of a completion covers its first block
  pub covers : {v c : ℕ} → Completion g v c → g.cost v ≤ c
  covers exit = omega (arith, L.last)
  covers (step m r e) = omega arith

  -- THE KEY LEMMA (source 000, lemma 1): over an edge, a copy's low leaves the same choice of costs as any amount of cycles that it serves
  pub same_low : (u v r a : ℕ) → Memᴰ v (g.next u) → low_of g u r ≡ some a → low_of g v (a - g.cost u) ≡ low_of g v (r - g.cost u)
  unfolding low_of
  same_low u v r a m e =
      let w = low-some u r a e in
      let fits : g.cost u ≤ a = covers w.cost in
      sym (largest-same (completes g v) (r - g.cost u) (a - g.cost u) (omega (arith, w.below))
      (λ c t h. let k = w.most (g.cost u + c) (step m (completes-sound g L v c t) refl) (omega (arith, w.below)) in omega arith))

  -- so a copy serves every amount of cycles left whose largest completion cost is its low: each edge leads where that amount would
  pub serves : (u v r a : ℕ) {s q : ℕ} → Memᴰ v (g.next u) → IsLow g u r a → a ≡ g.cost u + s → r ≡ g.cost u + q → (c : ℕ)
      → IsLow g v s c ↔ IsLow g v q c
  serves u v r a {s} {q} m w e f c =
      let x : a - g.cost u ≡ s = omega arith in
      let y : r - g.cost u ≡ q = omega arith in
      let z : low_of g v s ≡ low_of g v q = rw (x, y) at (same_low u v r a m (is-low w)) in
      (λ h. low-some v q c (sym z ∙ is-low h), λ h. low-some v s c (z ∙ is-low h))
