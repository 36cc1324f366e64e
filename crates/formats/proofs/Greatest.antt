-- The fold over a report's figures finds the greatest fraction of copies to blocks, the earliest of equal ones, and no other is it.
-- Rests on base Lists, specs Report.
use mathlib.Core.Path.{◌≡◌, refl, sym, ap, ◌∙◌}
use mathlib.Core.Logic.{◌≢◌, ◌⊎◌, inl, inr, ⊎_elim}
use mathlib.Core.Bool.{Bool, true, false}
use mathlib.Core.List.{List, [], ◌∷◌, Memᴰ}
use mathlib.Core.Option.{some, none-ne-some, some-injective}
use Prim.Native.Nat.{ℕ, zero, suc, ◌+◌, ◌*◌, ◌≤◌, ◌<◌}
use native.Mathlib.Omega.{arith}
use native.Mathlib.Nat.{mul_right_comm, mul-le-mul_right, mul-lt-mul_of_pos_right, le_of_mul-le-mul_right, lt_of_mul-lt-mul_right}
use native.Mathlib.Decide.{ℕ_discrete, dec_le}
use borrow.Author.Tests.{ltb-true, ltb-false}
use lib.ListN.{length}
use Rattle.base.specs.Lists.{chosen}
use Rattle.base.proofs.Lists.{chosen-mem, chosen-le}
use Rattle.formats.specs.Report.{Figures, Most, no_most, greater, most_of, most, most_line, Greatest}

-- a product above something has no factor 0
positive : (x n a : ℕ) → x < n * a → (0 < n) × (0 < a)
positive x zero a l = absurd (omega arith)
positive x (suc n) zero l = absurd (omega arith)
positive x (suc n) (suc a) l = omega arith

-- FRACTIONS, compared by whole numbers: a / b is at most c / d, which is below e / f
module _ (a b c d e f : ℕ) (p : a * d ≤ c * b) (q : c * f < e * d) where
  at_most : a * f * d ≤ c * f * b
  at_most = rw (mul_right_comm a f d, mul_right_comm c f b) (mul-le-mul_right f p)

  at-most-below : a * f ≤ e * b
  at-most-below =
      let r : c * f * b ≤ e * d * b = mul-le-mul_right b (omega arith) in
      let s : a * f * d ≤ e * b * d = omega (arith, at_most, mul_right_comm e b d) in
      le_of_mul-le-mul_right s (positive _ e d q).1

  below-below : 0 < b → a * f < e * b
  below-below l =
      let r : c * f * b < e * d * b = mul-lt-mul_of_pos_right q l in
      let s : a * f * d < e * b * d = omega (arith, at_most, mul_right_comm e b d) in
      lt_of_mul-lt-mul_right d s

-- THE FOLD
module _ (fs : List Figures) (divides : (f : Figures) → Memᴰ f fs → 1 ≤ f.copies → 1 ≤ f.blocks) where
  -- the greatest of the first n sheets
  record UpTo (n : ℕ) (m : Most) : Type 0 where
    found : (m.place ≡ 0)
        ⊎ ((f : Figures) × (chosen fs m.place ≡ some f) × (f.copies ≡ m.copies) × (f.blocks ≡ m.blocks))
    last : m.place ≤ n
    above : (p : ℕ) (f : Figures) → p ≤ n → chosen fs p ≡ some f → f.copies * m.blocks ≤ m.copies * f.blocks
    earliest : (p : ℕ) (f : Figures) → p < m.place → chosen fs p ≡ some f → 1 ≤ f.blocks
        → f.copies * m.blocks < m.copies * f.blocks
    none : m.place ≡ 0 → (m.copies ≡ 0) × (m.blocks ≡ 1)
    whole : m.place ≢ 0 → (1 ≤ m.copies) × (1 ≤ m.blocks)

  -- one sheet more
  one_more : (n : ℕ) (m : Most) (f : Figures) → UpTo n m → chosen fs (suc n) ≡ some f → UpTo (suc n) (most_of m (suc n) f)
  unfolding greater most_of
  one_more n m f U q = go (greater f m) refl
    where
      -- a place up to n + 1 is one up to n, or that sheet's
      split : (p : ℕ) (h : Figures) → p ≤ suc n → chosen fs p ≡ some h → (p ≤ n) ⊎ (h ≡ f)
      split p h l x = at (dec_le p n)
        where
          at : Dec (p ≤ n) → (p ≤ n) ⊎ (h ≡ f)
          at (yes k) = inl k
          at (no k) = let e : p ≡ suc n = omega arith in inr (some-injective h f (sym x ∙ ap (chosen fs) e ∙ q))

      go : (b : Bool) → greater f m ≡ b → UpTo (suc n) (most_of m (suc n) f)
      go true e =
          let l : m.copies * f.blocks < f.copies * m.blocks = ltb-true _ _ e in
          let c = (positive _ f.copies m.blocks l).0 in
          rw (e, most_of) (record {
            found = inr (f, q, refl, refl);
            last = omega arith;
            above = λ p h k x.
                ⊎_elim (λ i. at-most-below h.copies h.blocks m.copies m.blocks f.copies f.blocks (U.above p h i x) l)
                (λ z. rw z (omega arith)) (split p h k x);
            earliest = λ p h k x i.
                below-below h.copies h.blocks m.copies m.blocks f.copies f.blocks (U.above p h (omega arith) x) l i;
            none = λ z. absurd (omega arith);
            whole = λ z. (c, divides f (chosen-mem fs (suc n) f q) c);
          })
      go false e =
          let l : f.copies * m.blocks ≤ m.copies * f.blocks = ltb-false _ _ e in
          rw (e, most_of) (record {
            found = U.found;
            last = omega (arith, U.last);
            above = λ p h k x. ⊎_elim (λ i. U.above p h i x) (λ z. rw z l) (split p h k x);
            earliest = U.earliest;
            none = U.none;
            whole = U.whole;
          })

  -- all the rest
  the_rest : (gs : List Figures) (n : ℕ) (m : Most) → ((i : ℕ) → chosen fs (suc (n + i)) ≡ chosen gs (suc i)) → UpTo n m
      → UpTo (n + length gs) (most m (suc n) gs)
  unfolding most chosen
  the_rest [] n m at U = let e : n + 0 ≡ n = omega arith in rw e U
  the_rest (g ∷ gs) n m at U =
      let e : n + suc (length gs) ≡ suc n + length gs = omega arith in
      let z : n + 0 ≡ n = omega arith in
      rw e (the_rest gs (suc n) (most_of m (suc n) g)
      (λ i. let s : suc n + i ≡ n + suc i = omega arith in rw s (at (suc i)))
      (one_more n m g U (rw z at (at 0))))

  at_first : UpTo 0 no_most
  unfolding chosen
  at_first = record {
    found = inl refl;
    last = omega arith;
    above = λ p f l q. let z : p ≡ 0 = omega arith in absurd (none-ne-some f (sym (ap (chosen fs) z) ∙ q));
    earliest = λ p f l. absurd (omega arith);
    none = λ z. (refl, refl);
    whole = λ z. absurd (z refl);
  }

  pub greatest : Greatest fs (most no_most 1 fs)
  greatest =
      let U = the_rest fs 0 no_most (λ i. let s : 0 + i ≡ i = omega arith in rw s) at_first in
      let above : (p : ℕ) (f : Figures) → chosen fs p ≡ some f
      → f.copies * (most no_most 1 fs).blocks ≤ (most no_most 1 fs).copies * f.blocks
      = λ p f q. U.above p f (omega (arith, chosen-le fs p f q)) q in
      record {
        found = U.found;
        above = above;
        earliest = U.earliest;
        nothing = λ z p f q. omega (arith, rw ((U.none z).0, (U.none z).1) at (above p f q));
        whole = U.whole;
      }

-- NO OTHER IS THE GREATEST: the report's line on it is one
module _ (fs : List Figures) where
  abbrev Sheet : Most → Type 0
  Sheet m = (f : Figures) × (chosen fs m.place ≡ some f) × (f.copies ≡ m.copies) × (f.blocks ≡ m.blocks)

  sheet-of : (m : Most) → Greatest fs m → m.place ≢ 0 → Sheet m
  sheet-of m G z = ⊎_elim (λ e. absurd (z e)) (λ s. s) G.found

  not_earlier : (m n : Most) → Greatest fs m → Greatest fs n → m.place ≢ 0 → m.place < n.place → ⊥
  not_earlier m n G H z l =
      let s = sheet-of m G z in
      let r = sheet-of n H (λ e. omega arith) in
      let x = H.earliest m.place s.0 l s.1 (omega (arith, (G.whole z).1, s.3)) in
      let y = G.above n.place r.0 r.1 in
      omega (arith, rw (s.2, s.3) at x, rw (r.2, r.3) at y)

  none-too : (m n : Most) → Greatest fs m → Greatest fs n → m.place ≡ 0 → n.place ≡ 0
  none-too m n G H e = go (ℕ_discrete n.place 0)
    where
      go : Dec (n.place ≡ 0) → n.place ≡ 0
      go (yes z) = z
      go (no z) =
          let r = sheet-of n H z in absurd (omega (arith, G.nothing e n.place r.0 r.1, r.2, (H.whole z).0))

  module _ (m n : Most) (G : Greatest fs m) (H : Greatest fs n) where
    same_place : m.place ≡ n.place
    same_place = go (ℕ_discrete m.place 0) (ℕ_discrete n.place 0)
      where
        go : Dec (m.place ≡ 0) → Dec (n.place ≡ 0) → m.place ≡ n.place
        go (yes y) d = y ∙ sym (none-too m n G H y)
        go (no y) (yes z) = none-too n m H G z ∙ sym z
        go (no y) (no z) = let k = not_earlier m n G H y in let l = not_earlier n m H G z in omega arith

    pub one_line : most_line m ≡ most_line n
    unfolding most_line
    one_line = go m.place refl
      where
        go : (p : ℕ) → m.place ≡ p → most_line m ≡ most_line n
        go zero e = rw (e, sym same_place ∙ e, most_line)
        go (suc p) e =
            let s = sheet-of m G (λ z. omega arith) in
            let r = sheet-of n H (λ z. omega (arith, same_place)) in
            let x : s.0 ≡ r.0 = some-injective _ _ (sym s.1 ∙ ap (chosen fs) same_place ∙ r.1) in
            let c : m.copies ≡ n.copies = sym s.2 ∙ ap (λ (f : Figures). f.copies) x ∙ r.2 in
            let b : m.blocks ≡ n.blocks = sym s.3 ∙ ap (λ (f : Figures). f.blocks) x ∙ r.3 in
            rw (e, sym same_place ∙ e, most_line) (rw (c, b))
