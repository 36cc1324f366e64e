-- The exit in copies in order: it is the first copy behind the start copies, and no copy of its block stands behind it.
-- Rests on base Truth, Lists and Copies, formats RuleRead, Starts, specs Behind.
use mathlib.Core.Path.{◌≡◌, refl, sym, ap, subst, ◌∙◌}
use mathlib.Core.Logic.{⊎_elim}
use mathlib.Core.Bool.{Bool, true, false, ◌&&◌, not}
use mathlib.Core.List.{List, [], ◌∷◌, Memᴰ}
use Prim.Native.Nat.{ℕ, zero, suc, ◌+◌, ◌-◌, ◌≤◌, ◌<◌}
use native.Mathlib.Omega.{arith}
use native.Mathlib.Decide.{ℕ_discrete}
use lib.Dec.{eqb, ltb}
use lib.ListN.{length}
use borrow.Author.Tests.{eq-eqb, ne_eqb, eqb-true, ltb-true, ltb-false, not-false}
use Rattle.base.specs.Lists.{any, from}
use Rattle.base.proofs.Truth.{not-both, or_l, or_r, any-i}
use Rattle.base.proofs.Lists.{keep-i, keep-e, keep_one, from-i, from-e}
use Rattle.base.proofs.Copies.{before-cases}
use Rattle.formats.specs.BoundedSheet.{Heading, block_at, low_at, first_at, copy_at}
use Rattle.formats.specs.Rule11.{copies_of, not_one_of, bad_exit, start_count}
use Rattle.formats.proofs.RuleRead.{in_order, block-above, ordered-in, ordered-out}
use Rattle.record_check.specs.Records.{bad_records}
use Rattle.bounded_check.specs.Behind.{bad_exits}
use Rattle.bounded_check.proofs.Starts.{kept-order}

-- a first edge that is tested
pub is-chain : (x : ℕ) → not (eqb x 0) ≡ true → x ≡ 0 → ⊥
is-chain x t e = not-both t (ap not (eq-eqb x 0 e))

pub no-chain : (x : ℕ) → not (eqb x 0) ≡ false → x ≡ 0
no-chain x f = eqb-true x 0 (not-false _ f)

module _ (h : Heading) (s : List ℕ) (k : ℕ) (R : bad_records h s k ≡ false) where
  abbrev c : ℕ
  c = h.copies

  -- each copy and the next: the blocks do not fall, and in one block the lows rise
  next : (i : ℕ) → 1 ≤ i → suc i ≤ c
      → (block_at h s i ≤ block_at h s (suc i)) × (block_at h s i ≡ block_at h s (suc i) → low_at h s i < low_at h s (suc i))
  unfolding copy_at
  next i p q =
      let o = kept-order h s k R in
      ⊎_elim (λ l. (omega arith, λ e. absurd (omega arith))) (λ e. (omega (arith, e.0), λ _. e.1))
      (before-cases (copy_at h s i) (copy_at h s (suc i)) (in_order h s o.0 o.1 i p (omega arith)))

  rise : (d i : ℕ) → 1 ≤ i → i + d ≤ c → block_at h s i ≤ block_at h s (i + d)
  rise zero i p q = let z : i + 0 ≡ i = omega arith in rw z (omega arith)
  rise (suc d) i p q =
      let z : i + suc d ≡ suc (i + d) = omega arith in
      let below = rise d i p (omega arith) in
      rw z (omega (arith, (next (i + d) (omega arith) (omega arith)).0))

  -- AN EXIT that is wrong: another copy of block 2 alike
  abbrev wrong_exit : ℕ → Bool
  wrong_exit i = not (eqb (low_at h s i) 0 && eqb (first_at h s i) 0)

  wrong-exit : (i : ℕ) → 1 ≤ i → i ≤ c → block_at h s i ≡ 2 → wrong_exit i ≡ true → true ≡ bad_exits h s
  unfolding bad_exits bad_exit copies_of
  wrong-exit i p q e w =
      let m = keep-i (λ i. eqb (block_at h s i) 2) (from 1 c) (from-i c 1 i p (omega arith)) (eq-eqb (block_at h s i) 2 e) in
      sym (or_r (not_one_of h s 2) (any-i wrong_exit m w))

  -- no copy of block 2
  an-exit : (i : ℕ) → Memᴰ i (copies_of h s 2) → (1 ≤ i) × (i ≤ c) × (block_at h s i ≡ 2)
  unfolding copies_of
  an-exit i m =
      let k = keep-e (λ i. eqb (block_at h s i) 2) (from 1 c) m in
      let r = from-e c 1 i k.0 in
      (r.0, omega arith, eqb-true (block_at h s i) 2 k.1)

  no-exit : ((i : ℕ) → 1 ≤ i → i ≤ c → block_at h s i ≡ 2 → ⊥) → true ≡ bad_exits h s
  unfolding bad_exits not_one_of
  no-exit none = sym (or_l (bad_exit h s) (go (copies_of h s 2) refl))
    where
      go : (is : List ℕ) → copies_of h s 2 ≡ is → not (eqb (length is) 1) ≡ true
      go [] e = refl
      go (i ∷ is) e = let o = an-exit i (subst (Memᴰ i) (sym e) (Memᴰ.head refl)) in absurd (none i o.0 o.1 o.2)

  -- BEHIND k START COPIES
  module _ (q : k ≡ start_count h s) (l : k ≤ c) where
    start : (i : ℕ) → 1 ≤ i → i ≤ k → block_at h s i ≡ 1
    start i p m = let o = kept-order h s k R in (ordered-out h s o.0 o.1 i p (omega arith)).1

    pub starts-alone : k ≡ c → true ≡ bad_exits h s
    starts-alone e = no-exit (λ i p m z. omega (arith, start i p (omega arith)))

    -- some copy stands behind them
    module _ (m : k ≡ c → ⊥) where
      abbrev x : ℕ
      x = k + 1

      above : 2 ≤ block_at h s x
      above =
          let o = kept-order h s k R in
          let b : 1 ≤ block_at h s x = block-above h s o.0 o.1 x (omega arith) (omega arith) in
          let n : block_at h s x ≡ 1 → ⊥ = λ e. let z = ordered-in h s o.0 o.1 x (omega arith) (omega arith) e in omega arith in
          omega arith

      behind : (i y : ℕ) → y ≤ i → 1 ≤ y → i ≤ c → block_at h s y ≤ block_at h s i
      behind i y p l r = let z : y + (i - y) ≡ i = omega arith in rw z at (rise (i - y) y l (omega arith))

      -- a copy of block 2 stands behind them, where each is of the block of x or above
      exit-behind : (i : ℕ) → 1 ≤ i → i ≤ c → block_at h s i ≡ 2 → (x ≤ i) × (block_at h s x ≡ 2)
      exit-behind i p r z = go (ltb k i) refl
        where
          go : (b : Bool) → ltb k i ≡ b → (x ≤ i) × (block_at h s x ≡ 2)
          go true e =
              let l : x ≤ i = omega (arith, ltb-true k i e) in
              (l, omega (arith, above, behind i x l (omega arith) r))
          go false e = absurd (omega (arith, start i p (ltb-false k i e)))

      pub other_block : (block_at h s x ≡ 2 → ⊥) → true ≡ bad_exits h s
      other_block n = no-exit (λ i p r z. n (exit-behind i p r z).1)

      -- and is of block 2
      module _ (e : block_at h s x ≡ 2) where
        pub exit-low : (low_at h s x ≡ 0 → ⊥) → true ≡ bad_exits h s
        exit-low n = wrong-exit x (omega arith) (omega arith) e (rw (ne_eqb (low_at h s x) 0 n))

        module _ (z : low_at h s x ≡ 0) where
          pub exit-chain : (first_at h s x ≡ 0 → ⊥) → true ≡ bad_exits h s
          exit-chain n = wrong-exit x (omega arith) (omega arith) e (rw (eq-eqb (low_at h s x) 0 z, ne_eqb (first_at h s x) 0 n))

          -- a second copy of block 2 has a low
          two-exits : x < c → block_at h s (k + 2) ≡ 2 → true ≡ bad_exits h s
          two-exits l t =
              let y : k + 2 ≡ suc x = omega arith in
              let t' : block_at h s (suc x) ≡ 2 = ap (block_at h s) (sym y) ∙ t in
              let b = (next x (omega arith) (omega arith)).1 (e ∙ sym t') in
              wrong-exit (suc x) (omega arith) (omega arith) t' (rw (ne_eqb (low_at h s (suc x)) 0 (λ q. omega arith)))

          -- no second one
          pub one-exit : first_at h s x ≡ 0 → (x < c → block_at h s (k + 2) ≡ 2 → ⊥) → false ≡ bad_exits h s
          unfolding bad_exits bad_exit not_one_of copies_of any
          one-exit f n =
              let alone = keep_one (λ i. eqb (block_at h s i) 2) x (eq-eqb (block_at h s x) 2 e) c 1 (omega arith) (omega arith)
              (λ i p r t. only i p (omega arith) (eqb-true (block_at h s i) 2 t)) in
              rw (alone, eq-eqb (low_at h s x) 0 z, eq-eqb (first_at h s x) 0 f)
            where
              only : (i : ℕ) → 1 ≤ i → i ≤ c → block_at h s i ≡ 2 → i ≡ x
              only i p r t = go (ltb x i) refl
                where
                  go : (b : Bool) → ltb x i ≡ b → i ≡ x
                  go true l =
                      let y : k + 2 ≡ suc x = omega arith in
                      let m : suc x ≤ i = omega (arith, ltb-true x i l) in
                      let up = behind i (suc x) m (omega arith) r in
                      let at = (next x (omega arith) (omega arith)).0 in
                      absurd (n (omega arith) (ap (block_at h s) y ∙ omega arith))
                  go false l = omega (arith, ltb-false x i l, (exit-behind i p r t).0)

          pub second-tells : first_at h s x ≡ 0 → x < c → {v : ℕ} → v ≡ block_at h s (k + 2) → eqb v 2 ≡ bad_exits h s
          second-tells f l {v} t = go (ℕ_discrete v 2)
            where
              go : Dec (v ≡ 2) → eqb v 2 ≡ bad_exits h s
              go (yes e) = eq-eqb v 2 e ∙ two-exits l (sym t ∙ e)
              go (no n) = ne_eqb v 2 n ∙ one-exit f (λ _ y. n (t ∙ y))
