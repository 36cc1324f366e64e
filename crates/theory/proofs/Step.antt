-- A completion cost of a block by the costs of its successors: what decides a cell of the completion table.
-- Rests on base Truth, Completions.
use mathlib.Core.Path.{◌≡◌, refl, sym, ap, subst, ◌∙◌}
use mathlib.Core.Logic.{◌⊎◌, inl, inr, ◌≢◌}
use mathlib.Core.Bool.{Bool, true, false, ◌&&◌, ◌||◌}
use mathlib.Core.List.{List}
use Prim.Native.Nat.{ℕ, ◌+◌, ◌-◌, ◌≤◌, ◌<◌}
use native.Mathlib.Omega.{arith}
use borrow.Author.Tests.{eqb-true, eq-eqb, ne_eqb, leb-true, le-leb, lt-leb}
use lib.Dec.{leb, eqb}
use Rattle.base.specs.Lists.{any}
use Rattle.base.proofs.Truth.{same_test, and_i, and-e, or_r, or-e, any-i, any-e}
use Rattle.theory.specs.Completions.{Graph, Completion, exit, step, completes}
use Rattle.theory.specs.Setting.{WellFormed}
use Rattle.theory.proofs.Completions.{completes-sound, completes-complete}

and_none : (a : Bool) → (a && false) ≡ false
and_none true = refl
and_none false = refl

or-none : (a : Bool) → (a || false) ≡ a
or-none true = refl
or-none false = refl

module _ (g : Graph) (L : WellFormed g) where
  -- some successor of v has the cost c less the cost of v
  abbrev onward : ℕ → ℕ → Bool
  onward v c = any (λ t. completes g t (c - g.cost v)) (g.next v)

  unfolds : (v c : ℕ) → completes g v c ≡ ((eqb v 2 && eqb c 0) || (leb (g.cost v) c && onward v c))
  unfolds v c = same_test _ _ (λ p. there (completes-sound g L v c p)) back
    where
      there : {v c : ℕ} → Completion g v c → ((eqb v 2 && eqb c 0) || (leb (g.cost v) c && onward v c)) ≡ true
      there exit = refl
      there (step {v = v} {t = t} {c = d} {n = c} m r e) =
          let q : c - g.cost v ≡ d = omega arith in
          or_r (eqb v 2 && eqb c 0)
          (and_i (le-leb (g.cost v) c (omega arith)) (any-i (λ t. completes g t (c - g.cost v)) m (rw q (completes-complete g L r))))

      back : ((eqb v 2 && eqb c 0) || (leb (g.cost v) c && onward v c)) ≡ true → completes g v c ≡ true
      back p = completes-complete g L (go (or-e (eqb v 2 && eqb c 0) (leb (g.cost v) c && onward v c) p))
        where
          go : ((eqb v 2 && eqb c 0) ≡ true) ⊎ ((leb (g.cost v) c && onward v c) ≡ true) → Completion g v c
          go (inl q) =
              let e = and-e (eqb v 2) (eqb c 0) q in
              subst (λ (n : ℕ). Completion g n c) (sym (eqb-true v 2 e.0))
              (subst (λ (n : ℕ). Completion g 2 n) (sym (eqb-true c 0 e.1)) exit)
          go (inr q) =
              let e = and-e (leb (g.cost v) c) (onward v c) q in
              let m = any-e (λ t. completes g t (c - g.cost v)) (g.next v) e.1 in
              let l : c ≡ g.cost v + (c - g.cost v) = omega (arith, leb-true (g.cost v) c e.0) in
              step m.1 (completes-sound g L m.0 _ m.2) l

  -- THE CASES: the exit, a block that costs more than c, and any other
  pub at_exit : (v c : ℕ) → v ≡ 2 → completes g v c ≡ eqb c 0
  unfolding any
  at_exit v c e =
      unfolds v c
      ∙ ap (λ (b : Bool). (b && eqb c 0) || (leb (g.cost v) c && onward v c)) (eq-eqb v 2 e)
      ∙ ap (λ (l : List ℕ). eqb c 0 || (leb (g.cost v) c && any (λ t. completes g t (c - g.cost v)) l)) (ap g.next e ∙ L.closed)
      ∙ ap (λ (b : Bool). eqb c 0 || b) (and_none (leb (g.cost v) c))
      ∙ or-none (eqb c 0)

  pub too-dear : (v c : ℕ) → v ≢ 2 → c < g.cost v → completes g v c ≡ false
  too-dear v c n l = unfolds v c ∙ rw (ne_eqb v 2 n, lt-leb (g.cost v) c l)

  pub by_next : (v c : ℕ) → v ≢ 2 → g.cost v ≤ c → completes g v c ≡ onward v c
  by_next v c n l = unfolds v c ∙ rw (ne_eqb v 2 n, le-leb (g.cost v) c l)
