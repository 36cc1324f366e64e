-- The exit's place on a sheet that keeps rule 11: the only copy of block 2, found by passing the copies before it.
-- Rests on base Lists and Numbers, formats Rule11.
use mathlib.Core.Path.{◌≡◌, sym, ap, ◌∙◌}
use mathlib.Core.Logic.{◌≢◌}
use mathlib.Core.Bool.{Bool}
use mathlib.Core.List.{List}
use Prim.Native.Nat.{ℕ, ◌+◌, ◌≤◌, ◌<◌}
use native.Mathlib.Omega.{arith}
use native.Mathlib.Decide.{ℕ_discrete}
use borrow.Author.Tests.{eq-eqb, eqb-true, not-false}
use lib.Dec.{eqb}
use lib.ListN.{length}
use Rattle.base.specs.Lists.{from, nth}
use Rattle.base.proofs.Lists.{keep-i, keep-e, from-i, from-e}
use Rattle.base.proofs.Numbers.{nth_in, one-member}
use Rattle.formats.specs.BoundedSheet.{Heading, block_at}
use Rattle.formats.specs.Rule11.{copies_of, not_one_of, Ruled}

module _ (h : Heading) (s : List ℕ) where
  abbrev exit : ℕ
  exit = nth (copies_of h s 2) 1

  abbrev is_exit : ℕ → Bool
  is_exit i = eqb (block_at h s i) 2

  -- the copies before i are of other blocks
  pub record Passes (i : ℕ) : Type 0 where
    pub most : (1 ≤ i) × (i ≤ h.copies)
    pub others : (j : ℕ) → 1 ≤ j → j < i → block_at h s j ≢ 2

  module _ (R : Ruled h s) where
    alone : length (copies_of h s 2) ≡ 1
    unfolding not_one_of
    alone = eqb-true (length (copies_of h s 2)) 1 (not-false _ R.two)

    -- it is a copy of block 2
    there : (1 ≤ exit) × (exit ≤ h.copies) × (block_at h s exit ≡ 2)
    unfolding copies_of
    there =
        let k = keep-e is_exit (from 1 h.copies) (nth_in (copies_of h s 2) 1 (omega arith) (omega (arith, alone))) in
        let l = from-e h.copies 1 exit k.0 in
        (l.0, omega arith, eqb-true (block_at h s exit) 2 k.1)

    pub passes_none : Passes 1
    passes_none = record { most = omega (arith, there); others = λ j p q. omega arith }

    module _ {i : ℕ} (P : Passes i) {v : ℕ} (e : v ≡ block_at h s i) where
      -- the copy at i is that of block 2
      pub finds : v ≡ 2 → (i ≡ nth (copies_of h s 2) 1) × (1 ≤ i) × (i ≤ h.copies)
      unfolding copies_of
      finds z =
          let k = keep-i is_exit (from 1 h.copies) (from-i h.copies 1 i P.most.0 (omega (arith, P.most)))
          (eq-eqb (block_at h s i) 2 (sym e ∙ z)) in
          (ap (λ (l : List ℕ). nth l 1) (sym (one-member (copies_of h s 2) i alone k)), P.most.0, P.most.1)

      -- or it is passed too
      pub passes : v ≢ 2 → i < h.copies → Passes (i + 1)
      passes n l = record {
        most = omega arith;
        others = λ j p q b. go j p q b (ℕ_discrete j i);
      }
        where
          go : (j : ℕ) → 1 ≤ j → j < i + 1 → block_at h s j ≡ 2 → Dec (j ≡ i) → ⊥
          go j p q b (yes z) = n (e ∙ ap (block_at h s) (sym z) ∙ b)
          go j p q b (no z) = P.others j p (omega arith) b

    -- where all others are passed, it is the last
    pub last-left : {i : ℕ} → Passes i → h.copies ≤ i → (h.copies ≡ nth (copies_of h s 2) 1) × (1 ≤ h.copies) × (h.copies ≤ h.copies)
    last-left {i} P l = (go (ℕ_discrete exit h.copies), omega (arith, P.most), omega arith)
      where
        go : Dec (exit ≡ h.copies) → h.copies ≡ exit
        go (yes z) = sym z
        go (no z) = absurd (P.others exit there.0 (omega (arith, there, P.most)) there.2)
