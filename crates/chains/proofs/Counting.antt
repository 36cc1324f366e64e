-- A chain counted: count records from first on are passed, e is where the chain goes on, and the rest is counted still.
-- Rests on formats Chains, Rest.
use mathlib.Core.Path.{◌≡◌, refl, sym, ap, ◌∙◌}
use mathlib.Core.Logic.{◌⊎◌, inl, inr, ⊎_elim}
use mathlib.Core.List.{List, [], ◌∷◌}
use Prim.Native.Nat.{ℕ, suc, ◌+◌, ◌-◌, ◌≤◌, ◌<◌}
use native.Mathlib.Omega.{arith}
use native.Mathlib.Decide.{ℕ_discrete}
use lib.ListN.{length, drop}
use Rattle.formats.specs.Words.{chain_length, Inside, next_from, targets_from}
use Rattle.formats.proofs.Chains.{follow-end, follow-out, length-end, length_more, inside-next}
use Rattle.chains.proofs.Rest.{rest_out, rest_end, rest_more, rest_counted}

module _ (next : ℕ → ℕ) (m k : ℕ) where
  pub record Passed (first e count : ℕ) : Type 0 where
    pub within : count ≤ k
    pub inside : Inside next m (k - count) e
    pub sum : chain_length next k first ≡ count + chain_length next (k - count) e

  pub none_passed : {e : ℕ} → Inside next m k e → Passed e e 0
  none_passed {e} I = let z : k - 0 ≡ k = omega arith in record { within = omega arith; inside = rw z I; sum = rw z (omega arith) }

  module _ {first e count : ℕ} (P : Passed first e count) where
    pub one-passed : {x : ℕ} → count < k → (e ≡ 0 → ⊥) → x ≡ next e → Passed first x (count + 1)
    one-passed {x} l n q =
        let r = length_more next (k - count) e (omega arith) n in
        let z : k - (count + 1) ≡ k - count - 1 = omega arith in
        let I : Inside next m (k - count - 1) x = inside-next next P.inside (omega arith) n q in
        record { within = omega arith; inside = rw z I; sum = rw (z, q) (omega (arith, P.sum)) }

    -- nothing is left of the chain, or no more is to be counted
    pub all-passed : (e ≡ 0) ⊎ (count ≡ k) → count ≡ chain_length next k first
    all-passed o =
        let z = length-end next (k - count) e (⊎_elim (follow-end next _ _) (λ q. follow-out next _ _ (omega arith)) o) in
        omega (arith, P.sum)

-- A chain that gives its targets, turn by turn: count of its records are passed, and what it has left are the targets from e on.
module _ (w : List ℕ) (base m k first : ℕ) where
  abbrev next : ℕ → ℕ
  next = next_from w base

  pub record Given (count : ℕ) (left : List ℕ) : Type 0 where
    pub edge : ℕ
    pub passed : Passed next m k first edge count
    pub rest : left ≡ targets_from w base (k - count) edge

  pub given-none : Inside next m k first → Given 0 (targets_from w base k first)
  given-none I =
      let z : k - 0 ≡ k = omega arith in
      record { edge = first; passed = none_passed next m k I; rest = ap (λ (j : ℕ). targets_from w base j first) (sym z) }

  module _ {count : ℕ} {left : List ℕ} (G : Given count left) where
    -- as many are to come as are left
    pub given-sum : chain_length next k first ≡ count + length left
    given-sum = omega (arith, G.passed.sum, ap length G.rest, rest_counted w base (k - count) G.edge)

    -- one more is given
    module _ {t : ℕ} {ts : List ℕ} (e : left ≡ t ∷ ts) where
      here : suc (length ts) ≡ length (targets_from w base (k - count) G.edge)
      here = ap length (sym e ∙ G.rest)

      fuel : 0 < k - count
      fuel = go (ℕ_discrete (k - count) 0)
        where
          go : Dec (k - count ≡ 0) → 0 < k - count
          go (yes z) = absurd (omega (arith, here, ap length (rest_out w base (k - count) G.edge z)))
          go (no n) = omega arith

      goes_on : G.edge ≡ 0 → ⊥
      goes_on z = omega (arith, here, ap length (rest_end w base (k - count) G.edge z))

      pub given-one : Given (count + 1) ts
      given-one =
          let z : k - (count + 1) ≡ k - count - 1 = omega arith in
          record {
            edge = next G.edge;
            passed = one-passed next m k G.passed (omega (arith, fuel)) goes_on refl;
            rest = ap (drop 1) (sym e ∙ G.rest ∙ rest_more w base (k - count) G.edge fuel goes_on)
                ∙ ap (λ (j : ℕ). targets_from w base j (next G.edge)) (sym z);
          }

    -- nothing is left
    pub given-all : left ≡ [] → count ≡ chain_length next k first
    given-all e = all-passed next m k G.passed (go (ℕ_discrete G.edge 0) (ℕ_discrete (k - count) 0))
      where
        go : Dec (G.edge ≡ 0) → Dec (k - count ≡ 0) → (G.edge ≡ 0) ⊎ (count ≡ k)
        go (yes z) d = inl z
        go (no n) (yes z) = inr (omega (arith, G.passed.within))
        go (no n) (no f) =
            absurd (omega (arith, ap length (sym e ∙ G.rest ∙ rest_more w base (k - count) G.edge (omega arith) n)))
