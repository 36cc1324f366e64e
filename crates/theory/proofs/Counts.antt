-- A walk over copies ends within one move more than its budget, and is never stuck.
-- Rests on Completions, Runs.
use mathlib.Core.Path.{◌≡◌, refl, sym, subst, ◌∙◌}
use mathlib.Core.Logic.{◌≢◌}
use mathlib.Core.List.Memᴰ
use mathlib.Core.List.{List, [], ◌∷◌, map, Memᴰ}
use mathlib.Core.Option
use mathlib.Core.Option.{Option, some, none, none-ne-some, some-injective}
use Prim.Native.Nat.{ℕ, suc, ◌+◌, ◌-◌, ◌≤◌}
use native.Mathlib.Omega.{arith}
use native.Mathlib.Decide.{ℕ_discrete}
use borrow.Author.Tests.{eq-eqb}
use Rattle.base.specs.Lists.{chosen}
use Rattle.theory.specs.Completions.{Graph, Completion, exit, step, low_of}
use Rattle.base.specs.Copy.{Copy, copy_of}
use Rattle.theory.specs.Copies.{targets, copy_for}
use Rattle.theory.specs.Machines.{going, exit as at_exit, diverted, taken, reply, final}
use Rattle.theory.specs.Walks.{end_at, CopyWalk, entered, copy_take, copy_walk}
use Rattle.theory.specs.Setting.{WellFormed}
use Rattle.base.proofs.Lists.{chosen-map, chosen-mem}
use Rattle.theory.proofs.Completions.{away, low-some, covers}
use Rattle.theory.proofs.Runs.{keeps-all, reply-going}

pub not-diverted : diverted ≡ going → ⊥
not-diverted e = let z : ◌≡◌ {A = ℕ} 0 1 = cc in omega arith

not-exit : at_exit ≡ going → ⊥
not-exit e = let z : ◌≡◌ {A = ℕ} 0 1 = cc in omega arith

-- a place that is not the exit's is the only one to go on from
end_at-going : (x p : ℕ) → end_at x p ≡ going → p ≢ x
unfolding end_at
end_at-going x p e q = not-exit (rw (eq-eqb p x q, end_at) at e)

module _ (g : Graph) where
  -- a copy's target is the copy of a successor, at the largest cost that the low leaves
  pub target-of : (c d : Copy) (k : ℕ) → chosen (targets g c) k ≡ some (some d)
      → Memᴰ d.block (g.next c.block) × (low_of g d.block (c.low - g.cost c.block) ≡ some d.low)
  unfolding targets copy_for
  target-of c d k q = go (chosen (g.next c.block) k) refl (sym (chosen-map (copy_for g r) (g.next c.block) k) ∙ q)
    where
      r : ℕ
      r = c.low - g.cost c.block

      at : (t : ℕ) → Memᴰ t (g.next c.block) → (o : Option ℕ) → low_of g t r ≡ o
          → Option.map (copy_of t) o ≡ some d
          → Memᴰ d.block (g.next c.block) × (low_of g d.block r ≡ some d.low)
      at t m none e p = absurd (none-ne-some d p)
      at t m (some a) e p =
          let s : copy_of t a ≡ d = some-injective _ d p in
          subst (λ (x : Copy). Memᴰ x.block (g.next c.block) × (low_of g x.block r ≡ some x.low)) s (m, e)

      go : (o : Option ℕ) → chosen (g.next c.block) k ≡ o → Option.map (copy_for g r) o ≡ some (some d)
          → Memᴰ d.block (g.next c.block) × (low_of g d.block r ≡ some d.low)
      go none e p = absurd (none-ne-some (some d) p)
      go (some t) e p = at t (chosen-mem (g.next c.block) k t e) (low_of g t r) refl (some-injective _ (some d) p)

module _ (g : Graph) (L : WellFormed g) where
  -- a block other than the exit that has a completion has an edge
  pub edge_of : {v c : ℕ} → Completion g v c → v ≢ 2 → (t : ℕ) × Memᴰ t (g.next v)
  edge_of exit n = absurd (n refl)
  edge_of (step {t = t} m r e) n = (t, m)

  module _ (b : ℕ) where
    pub record Timely (u : CopyWalk) : Type 0 where
      pub cost : Completion g u.copy.block u.copy.low
      pub below : u.copy.low ≤ b
      pub total : u.moves ≤ suc b
      pub onward : u.end ≡ going → u.copy.block ≢ 2
      pub first : u.end ≡ going → u.copy.block ≡ 1 → u.moves ≡ 0
      pub sum : u.end ≡ going → u.moves + u.copy.low ≤ suc b

    -- a run that is going has made at most b moves
    pub early : (u : CopyWalk) → Timely u → u.end ≡ going → u.moves ≤ b
    early u h e = go (ℕ_discrete u.copy.block 1)
      where
        go : Dec (u.copy.block ≡ 1) → u.moves ≤ b
        go (yes p) = omega (arith, h.first e p)
        go (no p) =
            let w = edge_of h.cost (h.onward e) in
            omega (arith, L.paid u.copy.block w.0 w.1 p, covers g L h.cost, h.sum e)

    -- from any block but the start the low falls
    falls : (u : CopyWalk) → Timely u → u.end ≡ going → (t a : ℕ) → Memᴰ t (g.next u.copy.block)
        → a ≤ u.copy.low - g.cost u.copy.block
        → suc u.moves + a ≤ suc b
    falls u h e t a m l = go (ℕ_discrete u.copy.block 1)
      where
        go : Dec (u.copy.block ≡ 1) → suc u.moves + a ≤ suc b
        go (yes p) = omega (arith, h.first e p, h.below)
        go (no p) = omega (arith, L.paid u.copy.block t m p, covers g L h.cost, h.sum e)

    pub timely-take : (u : CopyWalk) → Timely u → u.end ≡ going → (k : ℕ) (o : Option Copy) → chosen (targets g u.copy) k ≡ some o
        → Timely (copy_take u o)
    unfolding copy_take entered
    timely-take u h e k none q =
        record {
          cost = h.cost;
          below = h.below;
          total = omega (arith, early u h e);
          onward = λ p. absurd (not-diverted p);
          first = λ p. absurd (not-diverted p);
          sum = λ p. absurd (not-diverted p);
        }
    timely-take u h e k (some c) q =
        let m = target-of g u.copy c k q in
        let w = low-some g L c.block (u.copy.low - g.cost u.copy.block) c.low m.1 in
        let s : suc u.moves + c.low ≤ suc b = falls u h e c.block c.low m.0 w.below in
        record {
          cost = w.cost;
          below = omega (arith, w.below, h.below);
          total = omega arith;
          onward = λ p. end_at-going 2 c.block p;
          first = λ p f. absurd (away L u.copy.block c.block m.0 f);
          sum = λ p. s;
        }

    pub timely-all : (ks : List ℕ) (u : CopyWalk) → Timely u → Timely (final (reply (copy_walk g)) u ks)
    unfolding copy_walk
    timely-all ks u h = keeps-all (copy_walk g) Timely (λ u h e k o q. timely-take u h e k o q) ks u h

    -- from a start copy at its budget
    pub timely-start : (a : ℕ) → low_of g 1 b ≡ some a → Timely (entered (copy_of 1 a) 0)
    unfolding entered end_at
    timely-start a e =
        let w = low-some g L 1 b a e in
        record {
          cost = w.cost;
          below = w.below;
          total = omega arith;
          onward = λ p q. absurd (omega arith);
          first = λ p q. refl;
          sum = λ p. omega (arith, w.below);
        }

    -- and is never stuck
    pub never_stuck : (u : CopyWalk) → Timely u → u.end ≡ going → (reply (copy_walk g) u 1).answer ≡ 0
    unfolding copy_walk targets taken chosen
    never_stuck u h e = rw (reply-going (copy_walk g) u 1 e) (first (g.next u.copy.block) (edge_of h.cost (h.onward e)).1)
      where
        first : {t : ℕ} (ts : List ℕ) → Memᴰ t ts
            → (taken (copy_walk g) u (chosen (map (copy_for g (u.copy.low - g.cost u.copy.block)) ts) 1)).answer ≡ 0
        first [] m = absurd (Memᴰ.not-nil m)
        first (x ∷ xs) m = refl
