-- The bits of words: of both, of either, of a power of two, of none; a word that is not 0 has one.
-- Rests on specs Masks.
use mathlib.Core.Path.{◌≡◌, refl, sym, ap, ◌∙◌}
use mathlib.Core.Bool.{true, false, ◌&&◌, ◌||◌}
use Prim.Native.Nat.{ℕ, zero, suc, ◌+◌, ◌-◌, ◌/◌, ◌%◌, ◌^◌, ◌<◌}
use native.Mathlib.Nat.{mod-lt, div-eq_of_lt, zero-div, div-lt_iff_lt-mul, pow-suc, pow-zero, div-one, one-mul}
use native.Mathlib.Decide.{ℕ_discrete, dec_lt}
use native.Mathlib.Numerals.{one-add}
use native.Mathlib.Omega.{arith}
use borrow.Author.Tests.{eq-eqb}
use lib.Dec.{eqb}
use lib.Bits.{bit_and, bit_or, and_shr, and_mod, or_shr, or_mod, or_add_and, and_le_l, and_le_r, shifted_even}
use lib.Pow.{pow-lt, pow-add, shl-shr, shr-shr}
use Rattle.masks.specs.Masks.{has_bit}

-- a bit as a number
abbrev bit : ℕ → ℕ → ℕ
bit m i = m / 2 ^ i % 2

small : (m i : ℕ) → bit m i < 2
small m i = mod-lt (m / 2 ^ i) (omega arith)

-- OF BOTH, OF EITHER
pub bit-and : (a b i : ℕ) → has_bit (bit_and a b) i ≡ (has_bit a i && has_bit b i)
unfolding has_bit
bit-and a b i =
    ap (λ (x : ℕ). eqb x 1) (ap (λ (x : ℕ). x % 2) (and_shr a b i) ∙ and_mod (a / 2 ^ i) (b / 2 ^ i) 1)
    ∙ go (bit a i) (bit b i) (small a i) (small b i)
  where
    go : (x y : ℕ) → x < 2 → y < 2 → eqb (bit_and x y) 1 ≡ (eqb x 1 && eqb y 1)
    go zero zero p q = refl
    go zero (suc zero) p q = refl
    go (suc zero) zero p q = refl
    go (suc zero) (suc zero) p q = refl
    go (suc (suc x)) y p q = absurd (omega arith)
    go zero (suc (suc y)) p q = absurd (omega arith)
    go (suc zero) (suc (suc y)) p q = absurd (omega arith)

pub bit-or : (a b i : ℕ) → has_bit (bit_or a b) i ≡ (has_bit a i || has_bit b i)
unfolding has_bit
bit-or a b i =
    ap (λ (x : ℕ). eqb x 1) (ap (λ (x : ℕ). x % 2) (or_shr a b i) ∙ or_mod (a / 2 ^ i) (b / 2 ^ i) 1)
    ∙ go (bit a i) (bit b i) (small a i) (small b i)
  where
    go : (x y : ℕ) → x < 2 → y < 2 → eqb (bit_or x y) 1 ≡ (eqb x 1 || eqb y 1)
    go zero zero p q = refl
    go zero (suc zero) p q = refl
    go (suc zero) zero p q = refl
    go (suc zero) (suc zero) p q = refl
    go (suc (suc x)) y p q = absurd (omega arith)
    go zero (suc (suc y)) p q = absurd (omega arith)
    go (suc zero) (suc (suc y)) p q = absurd (omega arith)

-- OF A POWER OF TWO, its own alone
pub bit-own : (i : ℕ) → has_bit (2 ^ i) i ≡ true
unfolding has_bit
bit-own i = ap (λ (x : ℕ). eqb (x % 2) 1) (ap (λ (x : ℕ). x / 2 ^ i) (sym (one-mul (2 ^ i))) ∙ shl-shr 1 i)

pub bit-other : (i j : ℕ) → (j ≡ i → ⊥) → has_bit (2 ^ i) j ≡ false
unfolding has_bit
bit-other i j n = go (dec_lt i j)
  where
    go : Dec (i < j) → eqb (2 ^ i / 2 ^ j % 2) 1 ≡ false
    go (yes l) = ap (λ (x : ℕ). eqb (x % 2) 1) (div-eq_of_lt (pow-lt l))
    go (no l) =
        let k = i - j - 1 in
        let e : i ≡ suc k + j = omega arith in
        let q : 2 ^ i / 2 ^ j ≡ 2 ^ suc k
        = ap (λ (x : ℕ). 2 ^ x / 2 ^ j) e ∙ ap (λ (x : ℕ). x / 2 ^ j) (pow-add 2 (suc k) j) ∙ shl-shr (2 ^ suc k) j in
        ap (λ (x : ℕ). eqb (x % 2) 1) q
        ∙ ap (λ (x : ℕ). eqb (x % 2) 1) (sym (one-mul (2 ^ suc k)))
        ∙ ap (λ (x : ℕ). eqb x 1) (shifted_even 1 k)

-- OF NONE; and a word that is not 0 has a bit
pub bit-none : (i : ℕ) → has_bit 0 i ≡ false
unfolding has_bit
bit-none i = ap (λ (x : ℕ). eqb (x % 2) 1) (zero-div (2 ^ i))

pub nothing : (a b : ℕ) → bit_or a b ≡ 0 → (a ≡ 0) × (b ≡ 0)
nothing a b e = let s = or_add_and a b in (omega (arith, s, and_le_r a b), omega (arith, s, and_le_l a b))

pub record SomeBit (m k : ℕ) : Type 0 where
  pub place : ℕ
  pub below : place < k
  pub set : has_bit m place ≡ true

pub bit-some : (k m : ℕ) → m < 2 ^ k → (m ≡ 0 → ⊥) → SomeBit m k
unfolding has_bit
bit-some zero m l n = absurd (n (omega (arith, pow-zero 2)))
bit-some (suc k) m l n = go (ℕ_discrete (m % 2) 1) (λ h o. bit-some k (m / 2) h o)
  where
    halves : m / 2 < 2 ^ k
    halves = (div-lt_iff_lt-mul {k = 2} {x = m} {y = 2 ^ k} (omega arith)).1 (omega (arith, pow-suc 2 k))

    go : Dec (m % 2 ≡ 1) → (m / 2 < 2 ^ k → (m / 2 ≡ 0 → ⊥) → SomeBit (m / 2) k) → SomeBit m (suc k)
    go (yes e) _ = record {
      place = 0;
      below = omega arith;
      set = ap (λ (x : ℕ). eqb (x % 2) 1) (ap (λ (x : ℕ). m / x) (pow-zero 2) ∙ div-one m) ∙ eq-eqb _ _ e;
    }
    go (no e) half =
        let S = half halves (λ z. n (omega arith)) in
        record {
          place = suc S.place;
          below = omega (arith, S.below);
          set = ap (λ (x : ℕ). eqb (x % 2) 1) (ap (λ (j : ℕ). m / 2 ^ j) (sym (one-add S.place)) ∙ sym (shr-shr m 1 S.place)) ∙ S.set;
        }
