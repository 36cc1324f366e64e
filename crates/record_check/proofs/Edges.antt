-- The loops that follow chains in the order of their copies: one turn of each, and what they say of the edges' order and targets.
-- Rests on base Search, formats Chains and Rule11, specs Chains and Records.
use mathlib.Core.Path.{◌≡◌, refl, sym, ap, ◌∙◌}
use mathlib.Core.Bool.{Bool, true, false, ◌&&◌, ◌||◌, not}
use mathlib.Core.List.{List, [], ◌∷◌, ◌++◌}
use Prim.Native.Nat.{ℕ, suc, ◌+◌, ◌-◌, ◌≤◌, ◌<◌}
use native.Mathlib.Omega.{arith}
use native.Mathlib.Decide.{ℕ_discrete}
use lib.Dec.{eqb}
use borrow.Author.Tests.{eq-eqb, ne_eqb}
use Rattle.std.specs.Prelude.{Option, Some, None}
use Rattle.base.specs.Lists.{any, each, from, equal}
use Rattle.base.proofs.Search.{upto, upto-one, upto-more, upto-end}
use Rattle.formats.specs.Words.{follow}
use Rattle.formats.specs.BoundedSheet.{Heading, first_at, target_at, next_at, chain_at}
use Rattle.formats.specs.Rule11.{bad_edge_order}
use Rattle.formats.proofs.Chains.{follow-end, follow-more}
use Rattle.record_check.specs.Records.{is_stray, bad_edges}
use Rattle.record_check.specs.Chains.{edges_up_to, in_turn, goes_on, Consecutive}

-- the edge e is due, and no edge is due behind the last
edges_more : (m e : ℕ) → e ≤ m → edges_up_to m e ≡ e ∷ edges_up_to m (e + 1)
unfolding upto
edges_more m e l = upto-more e m l

edges-end : (m e : ℕ) → m < e → edges_up_to m e ≡ []
unfolding upto
edges-end m e l = upto-end e m l

-- the next edge that is met: it is the one that is due, and does not stray
sorted : (a b c d : Bool) → ((a && b) && not (c || d)) ≡ (a && (not c && (b && not d)))
sorted true true true d = refl
sorted true true false d = refl
sorted true false true d = refl
sorted true false false d = refl
sorted false b c d = refl

module _ (stray : ℕ → Bool) (m e x : ℕ) (es : List ℕ) where
  turn_more : e ≤ m → in_turn stray m e (x ∷ es) ≡ (eqb x e && (not (stray e) && in_turn stray m (e + 1) es))
  unfolding in_turn equal any
  turn_more l =
      ap (λ (ds : List ℕ). equal (x ∷ es) ds && not (any stray ds)) (edges_more m e l)
      ∙ sorted (eqb x e) (equal es (edges_up_to m (e + 1))) (stray e) (any stray (edges_up_to m (e + 1)))

  turn_end : m < e → in_turn stray m e (x ∷ es) ≡ false
  unfolding in_turn equal
  turn_end l = ap (λ (ds : List ℕ). equal (x ∷ es) ds && not (any stray ds)) (edges-end m e l)

-- ONE CHAIN
module _ (next : ℕ → ℕ) (stray : ℕ → Bool) (m : ℕ) where
  -- a chain was begun at x₀ where the edge e₀ was due; its rest, from x on where e is due, decides
  pub record Chained (x₀ e₀ x e : ℕ) : Type 0 where
    pub least : 1 ≤ e₀
    pub begun : e₀ ≤ e
    pub most : e ≤ suc m
    pub rest : (es : List ℕ) → in_turn stray m e₀ (follow next (suc m) x₀ ++ es) ≡ in_turn stray m e (follow next (suc m + e₀ - e) x ++ es)

  pub chain-begins : (x e : ℕ) → 1 ≤ e → e ≤ suc m → Chained x e x e
  chain-begins x e p l =
      let k : suc m + e - e ≡ suc m = omega arith in
      record {
        least = p;
        begun = omega arith;
        most = l;
        rest = λ es. ap (λ (n : ℕ). in_turn stray m e (follow next n x ++ es)) (sym k);
      }

  module _ {x₀ e₀ x e : ℕ} (C : Chained x₀ e₀ x e) where
    pub chain-ends : x ≡ 0 → Consecutive next stray m x₀ e₀ (Some e)
    chain-ends z =
        record {
          within = (omega (arith, C.least, C.begun), C.most);
          then = λ es. C.rest es ∙ ap (λ (l : List ℕ). in_turn stray m e (l ++ es)) (follow-end next (suc m + e₀ - e) x z);
        }

    module _ (n : x ≡ 0 → ⊥) where
      more : (es : List ℕ) → in_turn stray m e₀ (follow next (suc m) x₀ ++ es)
          ≡ in_turn stray m e (x ∷ (follow next (suc m + e₀ - e - 1) (next x) ++ es))
      more es =
          C.rest es
          ∙ ap (λ (l : List ℕ). in_turn stray m e (l ++ es))
          (follow-more next (suc m + e₀ - e) x (omega (arith, C.least, C.begun, C.most)) n)

      -- what is met is not what is due
      broken-off : ((es : List ℕ) → in_turn stray m e₀ (follow next (suc m) x₀ ++ es) ≡ false) → Consecutive next stray m x₀ e₀ None
      broken-off t = record { within = tt; then = t }

      pub edge-beyond : m < e → Consecutive next stray m x₀ e₀ None
      edge-beyond l = broken-off (λ es. more es ∙ turn_end stray m e x _ l)

      module _ (l : e ≤ m) where
        due : (es : List ℕ) → in_turn stray m e₀ (follow next (suc m) x₀ ++ es)
            ≡ (eqb x e && (not (stray e) && in_turn stray m (e + 1) (follow next (suc m + e₀ - e - 1) (next x) ++ es)))
        due es = more es ∙ turn_more stray m e x _ l

        pub edge_other : (x ≡ e → ⊥) → Consecutive next stray m x₀ e₀ None
        edge_other q = broken-off (λ es. due es ∙ rw (ne_eqb x e q))

        module _ (q : x ≡ e) {b : Bool} (t : b ≡ stray e) where
          pub edge-astray : b ≡ true → Consecutive next stray m x₀ e₀ None
          edge-astray z = broken-off (λ es. due es ∙ rw (eq-eqb x e q, sym t ∙ z))

          pub edge-due : {y : ℕ} → b ≡ false → y ≡ next e → Chained x₀ e₀ y (e + 1)
          edge-due z r =
              let k : suc m + e₀ - e - 1 ≡ suc m + e₀ - (e + 1) = omega arith in
              record {
                least = C.least;
                begun = omega (arith, C.begun);
                most = omega arith;
                rest = λ es. due es ∙ rw (eq-eqb x e q, sym t ∙ z, k, q, r);
              }

-- ALL CHAINS
either : (a b : Bool) → (not a || b) ≡ not (a && not b)
either true true = refl
either true false = refl
either false b = refl

module _ (h : Heading) (s : List ℕ) (k : ℕ) where
  abbrev C : ℕ
  C = h.copies

  abbrev F : ℕ
  F = h.edges

  abbrev pub stray : ℕ → Bool
  stray e = is_stray k C (target_at h s e)

  abbrev chains_of : List ℕ → List ℕ
  chains_of is = each (chain_at h s) is

  -- the chains of the copies before i have the edges before e; those from i on decide
  pub record Following (i e : ℕ) : Type 0 where
    pub first : 1 ≤ e
    pub last : e ≤ suc F
    pub rest : bad_edges h s k ≡ not (in_turn stray F e (chains_of (upto i C)))

  pub begin : Following 1 1
  unfolding bad_edge_order bad_edges in_turn
  begin =
      let z : suc F - 1 ≡ F = omega arith in
      record {
        first = omega arith;
        last = omega arith;
        rest =
            either (equal (chains_of (from 1 C)) (from 1 F)) (any stray (from 1 F))
            ∙ (λ i. not (equal (chains_of (sym (upto-one C) i)) (from 1 (sym z i)) && not (any stray (from 1 (sym z i)))));
      }

  module _ {i e : ℕ} (S : Following i e) where
    module _ {x : ℕ} {end : Option ℕ} (N : Consecutive (next_at h s) stray F x e end) (l : i ≤ C) (q : x ≡ first_at h s i) where
      step : bad_edges h s k ≡ not (goes_on stray F end (chains_of (upto (i + 1) C)))
      unfolding chain_at each
      step =
          let later : List ℕ = chains_of (upto (i + 1) C) in
          S.rest
          ∙ ap (λ (is : List ℕ). not (in_turn stray F e (chains_of is))) (upto-more i C l)
          ∙ ap (λ (y : ℕ). not (in_turn stray F e (follow (next_at h s) (suc F) y ++ later))) (sym q)
          ∙ ap not (N.then later)

      pub broken : end ≡ None → bad_edges h s k ≡ true
      broken z = rw z at step

      pub onward : {d : ℕ} → end ≡ Some d → Following (i + 1) d
      onward {d} z =
          let w : (1 ≤ d) × (d ≤ suc F) = rw z at N.within in
          record { first = w.0; last = w.1; rest = rw z at step }

    -- behind the last chain every edge was met
    pub all_done : C < i → bad_edges h s k ≡ not (eqb e (F + 1))
    unfolding each equal in_turn any
    all_done l =
        S.rest ∙ ap (λ (is : List ℕ). not (in_turn stray F e (chains_of is))) (upto-end i C l) ∙ sym (go (ℕ_discrete e (F + 1)))
      where
        go : Dec (e ≡ F + 1) → not (eqb e (F + 1)) ≡ not (equal [] (edges_up_to F e) && not (any stray (edges_up_to F e)))
        go (yes z) = rw (eq-eqb e (F + 1) z, edges-end F e (omega arith))
        go (no z) = rw (ne_eqb e (F + 1) z, edges_more F e (omega (arith, S.last)))
