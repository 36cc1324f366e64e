-- Chains of records: their numbers, their length, and that a chain shorter than its fuel has come to its end.
-- Rests on specs Words.
use mathlib.Core.Path.{◌≡◌, refl, sym, ap, subst, ◌∙◌}
use mathlib.Core.Logic.{⊎_elim}
use mathlib.Core.List.Memᴰ
use mathlib.Core.List.{List, [], ◌∷◌, Memᴰ}
use Prim.Native.Nat.{ℕ, zero, suc, ◌+◌, ◌-◌, ◌≤◌, ◌<◌}
use native.Mathlib.Omega.{arith}
use lib.ListN.{length}
use Rattle.formats.specs.Words.{follow, chain_length, Inside}

module _ (next : ℕ → ℕ) where
  -- the numbers of a chain are no zeros
  pub follow-above : (k e x : ℕ) → Memᴰ x (follow next k e) → 1 ≤ x
  unfolding follow
  follow-above zero e x m = absurd (Memᴰ.not-nil m)
  follow-above (suc k) zero x m = absurd (Memᴰ.not-nil m)
  follow-above (suc k) (suc e) x m = ⊎_elim (λ q. omega arith) (λ n. follow-above k (next (suc e)) x n) (Memᴰ.cases_cons m)

  -- counting down a chain gives the length of its list
  pub chain-length-is : (k e : ℕ) → chain_length next k e ≡ length (follow next k e)
  unfolding follow chain_length
  chain-length-is zero e = refl
  chain-length-is (suc k) zero = refl
  chain-length-is (suc k) (suc e) = ap suc (chain-length-is k (next (suc e)))

  -- more fuel adds nothing to a chain that has ended
  pub follow-ends : (k j e : ℕ) → length (follow next k e) < k → follow next (k + j) e ≡ follow next k e
  unfolding follow
  follow-ends zero j e l = absurd (omega arith)
  follow-ends (suc k) j zero l = let p : suc k + j ≡ suc (k + j) = omega arith in rw p
  follow-ends (suc k) j (suc e) l =
      let p : suc k + j ≡ suc (k + j) = omega arith in
      rw p (ap (λ (es : List ℕ). suc e ∷ es) (follow-ends k j (next (suc e)) (omega arith)))

  -- next numbers that are the same at a chain's records give the same chain
  pub follow-same : (other : ℕ → ℕ) (k e : ℕ) → ((x : ℕ) → Memᴰ x (follow next k e) → other x ≡ next x)
      → follow other k e ≡ follow next k e
  unfolding follow
  follow-same other zero e h = refl
  follow-same other (suc k) zero h = refl
  follow-same other (suc k) (suc e) h =
      ap (λ (es : List ℕ). suc e ∷ es)
      (ap (follow other k) (h (suc e) (Memᴰ.head refl)) ∙ follow-same other k (next (suc e)) (λ x m. h x (Memᴰ.tail m)))

  -- TURN BY TURN, as code with the definition's own fuel goes down a chain
  pub follow-end : (k e : ℕ) → e ≡ 0 → follow next k e ≡ []
  unfolding follow
  follow-end zero e z = refl
  follow-end (suc k) e z = ap (follow next (suc k)) z

  pub follow-out : (k e : ℕ) → k ≡ 0 → follow next k e ≡ []
  unfolding follow
  follow-out k e z = ap (λ (n : ℕ). follow next n e) z

  pub follow-more : (k e : ℕ) → 0 < k → (e ≡ 0 → ⊥) → follow next k e ≡ e ∷ follow next (k - 1) (next e)
  unfolding follow
  follow-more zero e p n = absurd (let q : zero < zero = p in omega arith)
  follow-more (suc k) zero p n = absurd (n refl)
  follow-more (suc k) (suc e) p n = let q : suc k - 1 ≡ k = omega arith in rw q

  -- the length, by the list
  pub length-end : (k e : ℕ) → follow next k e ≡ [] → chain_length next k e ≡ 0
  length-end k e q = chain-length-is k e ∙ ap length q

  pub length_more : (k e : ℕ) → 0 < k → (e ≡ 0 → ⊥) → chain_length next k e ≡ suc (chain_length next (k - 1) (next e))
  length_more k e p n =
      chain-length-is k e ∙ ap length (follow-more k e p n) ∙ ap suc (sym (chain-length-is (k - 1) (next e)))

  -- A CHAIN INSIDE: no number above m is met on it
  module _ {m k e : ℕ} (I : Inside next m k e) (p : 0 < k) (n : e ≡ 0 → ⊥) where
    members : (x : ℕ) → Memᴰ x (e ∷ follow next (k - 1) (next e)) → x ≤ m
    members x i = I.is-inside x (subst (Memᴰ x) (sym (follow-more k e p n)) i)

    -- the record is one of 1 to m
    pub inside-here : (1 ≤ e) × (e ≤ m)
    inside-here = (omega arith, members e (Memᴰ.head refl))

    -- and so are those behind it
    pub inside-next : {x : ℕ} → x ≡ next e → Inside next m (k - 1) x
    inside-next q = rw q (record { is-inside = λ x i. members x (Memᴰ.tail i) })
