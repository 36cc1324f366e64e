-- The masks of the successors, block by block and successor by successor.
-- Rests on masks Masks, specs Joined and Nexts.
use mathlib.Core.Path.{◌≡◌, refl, sym, ap, subst, ◌∙◌}
use mathlib.Core.Bool.{true}
use mathlib.Core.List.{List, [], ◌∷◌, Memᴰ}
use Prim.Native.Nat.{ℕ, suc, ◌+◌, ◌*◌, ◌≤◌, ◌<◌}
use native.Mathlib.Decide.{ℕ_discrete, dec_lt}
use native.Mathlib.Numerals.{add-one}
use native.Mathlib.Omega.{arith}
use lib.ListN.{length, drop}
use Rattle.base.proofs.Truth.{not-both}
use Rattle.theory.specs.Completions.{Graph}
use Rattle.masks.specs.Masks.{in_mask, Empty, Put}
use Rattle.successor_masks.specs.Joined.{Joined}
use Rattle.successor_masks.specs.Nexts.{Nexts}

-- of v, below which all are listed, those are listed that are not among the last of its successors, ts
pub record Listed (g : Graph) (n v : ℕ) (first nexts ts : List ℕ) : Type 0 where
  pub same : length nexts ≡ length first
  pub below : Nexts g n v nexts
  pub here : (t : ℕ) → Memᴰ t (g.next v) → (Memᴰ t ts → ⊥) → in_mask nexts v t ≡ true

module _ {g : Graph} {n v : ℕ} where
  pub listed-none : {nexts : List ℕ} → Nexts g n v nexts → Listed g n v nexts nexts (g.next v)
  listed-none N = record { same = refl; below = N; here = λ t m k. absurd (k m) }

  listed_more : Joined g n → {first nexts after ts : List ℕ} {t : ℕ} → Listed g n v first nexts (t ∷ ts) → Memᴰ t (g.next v)
      → Put v t nexts after → Listed g n v first after ts
  listed_more G {first} {nexts} {after} {ts} {t} L m P = record {
    same = P.same ∙ L.same;
    below = record {
      room = omega (arith, P.same, L.below.room);
      sound = λ w u p q e. sound w u p q e (ℕ_discrete w v) (ℕ_discrete u t);
      full = λ w u l o. kept w u o (λ y z. omega arith) (L.below.full w u l o);
    };
    here = λ u o k. found u o k (ℕ_discrete u t);
  }
    where
      range : (w u : ℕ) → Memᴰ u (g.next w) → (1 ≤ u) × (u ≤ 128)
      range w u o = let r = G.target w u o in (omega (arith, r.0), omega (arith, r.1, G.blocks.1))

      kept : (w u : ℕ) → Memᴰ u (g.next w) → (w ≡ v → u ≡ t → ⊥) → in_mask nexts w u ≡ true → in_mask after w u ≡ true
      kept w u o n e = let r = range w u o in P.others w u r.0 r.1 n ∙ e

      sound : (w u : ℕ) → 1 ≤ u → u ≤ 128 → in_mask after w u ≡ true → Dec (w ≡ v) → Dec (u ≡ t) → Memᴰ u (g.next w)
      sound w u p q e (yes y) (yes z) =
          subst (λ (x : ℕ). Memᴰ u (g.next x)) (sym y) (subst (λ (x : ℕ). Memᴰ x (g.next v)) (sym z) m)
      sound w u p q e (no y) _ = L.below.sound w u p q (sym (P.others w u p q (λ i _. y i)) ∙ e)
      sound w u p q e (yes y) (no z) = L.below.sound w u p q (sym (P.others w u p q (λ _ i. z i)) ∙ e)

      found : (u : ℕ) → Memᴰ u (g.next v) → (Memᴰ u ts → ⊥) → Dec (u ≡ t) → in_mask after v u ≡ true
      found u o k (yes z) = ap (in_mask after v) z ∙ P.here
      found u o k (no z) = kept v u o (λ _ i. z i) (L.here u o (λ x. not_there x z k))
        where
          not_there : Memᴰ u (t ∷ ts) → (u ≡ t → ⊥) → (Memᴰ u ts → ⊥) → ⊥
          not_there (Memᴰ.head e) z k = z e
          not_there (Memᴰ.tail x) z k = k x

  pub listed_next : Joined g n → {first nexts after : List ℕ} (i : ℕ) {t : ℕ} → Listed g n v first nexts (drop i (g.next v))
      → drop i (g.next v) ≡ t ∷ drop (suc i) (g.next v) → Memᴰ t (g.next v) → Put v t nexts after
      → Listed g n v first after (drop (i + 1) (g.next v))
  listed_next G {first} {nexts} {after} i L e m P =
      subst (λ (j : ℕ). Listed g n v first after (drop j (g.next v))) (sym (add-one i))
      (listed_more G (subst (Listed g n v first nexts) e L) m P)

  pub listed-all : {first nexts ts : List ℕ} → Listed g n v first nexts ts → length ts ≡ 0 → Nexts g n (v + 1) nexts
  listed-all {first} {nexts} {ts} L e = record {
    room = L.below.room;
    sound = L.below.sound;
    full = λ w t l m. go w t l m (dec_lt w v);
  }
    where
      none : (xs : List ℕ) (t : ℕ) → length xs ≡ 0 → Memᴰ t xs → ⊥
      none [] t e m = elim m [ ]
      none (x ∷ xs) t e m = omega arith

      go : (w t : ℕ) → w < v + 1 → Memᴰ t (g.next w) → Dec (w < v) → in_mask nexts w t ≡ true
      go w t l m (yes h) = L.below.full w t h m
      go w t l m (no h) =
          let z : w ≡ v = omega arith in
          ap (λ (x : ℕ). in_mask nexts x t) z ∙ L.here t (subst (λ (x : ℕ). Memᴰ t (g.next x)) z m) (none ts t e)

-- no block is listed yet
pub nexts-none : {g : Graph} {n : ℕ} {nexts : List ℕ} → Joined g n → Empty nexts × (2 * n + 2 ≤ length nexts) → Nexts g n 1 nexts
unfolding Empty
nexts-none G p = record {
  room = p.1;
  sound = λ v t i j e. absurd (not-both e (p.0 v t));
  full = λ v t l m. absurd (omega (arith, G.source v t m));
}
