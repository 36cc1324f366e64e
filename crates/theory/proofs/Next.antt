-- The smallest number from a place on that passes a test, and the smallest completion cost above a number: exactly what they are.
-- Rests on base Truth, specs Completions and Setting, Completions.
use mathlib.Core.Path.{◌≡◌, refl, sym, ap, ◌∙◌}
use mathlib.Core.Bool.{Bool, true, false}
use mathlib.Core.Option.{Option, some, none, none-ne-some, some-ne-none, some-injective}
use Prim.Native.Nat.{ℕ, zero, suc, ◌+◌, ◌-◌, ◌≤◌, ◌<◌}
use native.Mathlib.Omega.{arith}
use Rattle.base.proofs.Truth.{not-both}
use Rattle.theory.specs.Completions.{Graph, IsNext, NoNext, completes, smallest, next_of}
use Rattle.theory.specs.Setting.{WellFormed}
use Rattle.theory.proofs.Completions.{completes-sound, completes-complete, exit-cost}

-- THE SMALLEST OF THE k NUMBERS FROM a ON THAT PASSES A TEST
module _ (f : ℕ → Bool) where
  pub record IsSmallest (a k n : ℕ) : Type 0 where
    pub passes : f n ≡ true
    pub above : a ≤ n
    pub below : n < a + k
    pub least : (c : ℕ) → f c ≡ true → a ≤ c → n ≤ c

  -- one that fails is left aside
  aside : {a : ℕ} → f a ≡ false → (c : ℕ) → f c ≡ true → a ≤ c → suc a ≤ c
  aside {a} e c p l = let n : a ≡ c → ⊥ = λ q. not-both (ap f q ∙ p) e in omega arith

  pub smallest-some : (k a n : ℕ) → smallest f a k ≡ some n → IsSmallest a k n
  unfolding smallest
  smallest-some zero a n e = absurd (none-ne-some n e)
  smallest-some (suc k) a n e = go (f a) refl (smallest-some k (suc a) n)
    where
      go : (x : Bool) → f a ≡ x → (smallest f (suc a) k ≡ some n → IsSmallest (suc a) k n) → IsSmallest a (suc k) n
      go true p below =
          let q : a ≡ n = some-injective a n (rw (p, smallest) at e) in
          record { passes = sym (ap f q) ∙ p; above = omega arith; below = omega arith; least = λ c t l. omega arith }
      go false p below =
          let w = below (rw (p, smallest) at e) in
          record {
            passes = w.passes;
            above = omega (arith, w.above);
            below = omega (arith, w.below);
            least = λ c t l. w.least c t (aside p c t l);
          }

  pub smallest-none : (k a : ℕ) → smallest f a k ≡ none → (c : ℕ) → f c ≡ true → a ≤ c → c < a + k → ⊥
  unfolding smallest
  smallest-none zero a e c t l m = omega arith
  smallest-none (suc k) a e c t l m = go (f a) refl (smallest-none k (suc a))
    where
      go : (x : Bool) → f a ≡ x → (smallest f (suc a) k ≡ none → (c : ℕ) → f c ≡ true → suc a ≤ c → c < suc a + k → ⊥) → ⊥
      go true p below = some-ne-none a (rw (p, smallest) at e)
      go false p below = below (rw (p, smallest) at e) c t (aside p c t l) (omega arith)

  -- tests that agree on these numbers have the same smallest
  pub smallest-agree : (h : ℕ → Bool) (k a : ℕ) → ((c : ℕ) → a ≤ c → c < a + k → f c ≡ h c) → smallest f a k ≡ smallest h a k
  unfolding smallest
  smallest-agree h zero a e = refl
  smallest-agree h (suc k) a e = go (h a) refl (smallest-agree h k (suc a) (λ c l m. e c (omega arith) (omega arith)))
    where
      go : (x : Bool) → h a ≡ x → smallest f (suc a) k ≡ smallest h (suc a) k → smallest f a (suc k) ≡ smallest h a (suc k)
      go true p q = rw (e a (omega arith) (omega arith) ∙ p, p, smallest)
      go false p q = rw (e a (omega arith) (omega arith) ∙ p, p, smallest) q

-- THE SMALLEST COMPLETION COST ABOVE A NUMBER
module _ (g : Graph) (L : WellFormed g) where
  pub next-some : (b v r a : ℕ) → next_of g b v r ≡ some a → IsNext g b v r a
  unfolding next_of
  next-some b v r a e =
      let w = smallest-some (completes g v) _ _ a e in
      record {
        cost = completes-sound g L v a w.passes;
        above = omega (arith, w.above);
        below = omega (arith, w.above, w.below);
        least = λ c d l. w.least c (completes-complete g L d) (omega arith);
      }

  pub next-none : (b v r : ℕ) → next_of g b v r ≡ none → NoNext g b v r
  unfolding next_of
  next-none b v r e c d l m = smallest-none (completes g v) _ _ e c (completes-complete g L d) (omega arith) (omega arith)

  -- and back: it finds what there is, and nothing where there is nothing
  pub is-next : {b v r a : ℕ} → IsNext g b v r a → next_of g b v r ≡ some a
  is-next {b} {v} {r} {a} w = go (next_of g b v r) refl
    where
      go : (o : Option ℕ) → next_of g b v r ≡ o → next_of g b v r ≡ some a
      go none e = absurd (next-none b v r e a w.cost w.above w.below)
      go (some d) e =
          let x = next-some b v r d e in
          let p = w.least d x.cost x.above in
          let q : d ≡ a = omega (arith, x.least a w.cost w.above) in
          e ∙ ap some q

  pub no-next : {b v r : ℕ} → NoNext g b v r → next_of g b v r ≡ none
  no-next {b} {v} {r} n = go (next_of g b v r) refl
    where
      go : (o : Option ℕ) → next_of g b v r ≡ o → next_of g b v r ≡ none
      go none e = e
      go (some a) e = let w = next-some b v r a e in absurd (n a w.cost w.above w.below)

  -- "The exit's only completion costs 0": it has none above any number
  pub exit-next : (b r : ℕ) → next_of g b 2 r ≡ none
  exit-next b r = no-next (λ c d l m. omega (arith, l, exit-cost g L d refl))
