-- A block put into a mask, and a block in two masks.
-- Rests on Bits, specs Masks.
use mathlib.Core.Path.{◌≡◌, refl, sym, ap, ◌∙◌}
use mathlib.Core.Bool.{Bool, true, false, ◌&&◌, ◌||◌, not}
use mathlib.Core.List.{List}
use Prim.Native.Nat.{ℕ, zero, suc, ◌+◌, ◌-◌, ◌*◌, ◌^◌, ◌≤◌, ◌<◌}
use native.Mathlib.Decide.{ℕ_discrete, dec_le}
use native.Mathlib.Omega.{arith}
use borrow.Author.Tests.{eq-eqb, ne_eqb, le-leb, lt-leb}
use lib.Dec.{eqb}
use lib.ListN.{length, get_or, set, replicate, length-set}
use lib.Seq.{get_or-set_same, get_or-set_other}
use lib.Bits.{bit_and, bit_or, and_lt}
use Rattle.masks.specs.Masks.{has_bit, in_mask, Empty, Put, Common, Meets}
use Rattle.masks.proofs.Bits.{bit-and, bit-or, bit-own, bit-other, bit-none, nothing, bit-some}

-- the word and the bit of a block, of the first half and of the second
module _ (row : List ℕ) (k t : ℕ) where
  first : t ≤ 64 → in_mask row k t ≡ has_bit (get_or row (2 * k) 0) (t - 1)
  unfolding in_mask
  first l = rw (le-leb t 64 l, in_mask)

  second : 64 < t → in_mask row k t ≡ has_bit (get_or row (2 * k + 1) 0) (t - 65)
  unfolding in_mask
  second l = rw (lt-leb t 64 l, in_mask)

-- PUT, by one bit more in one word of a row
module _ (m i : ℕ) where
  bit-put : {x : ℕ} → x ≡ 2 ^ i → has_bit (bit_or m x) i ≡ true
  bit-put e = ap (λ (x : ℕ). has_bit (bit_or m x) i) e ∙ bit-or m (2 ^ i) i ∙ ap (λ (y : Bool). has_bit m i || y) (bit-own i) ∙ or-true (has_bit m i)
    where
      or-true : (y : Bool) → (y || true) ≡ true
      or-true true = refl
      or-true false = refl

  bit_kept : {x : ℕ} → x ≡ 2 ^ i → (j : ℕ) → (j ≡ i → ⊥) → has_bit (bit_or m x) j ≡ has_bit m j
  bit_kept e j n =
      ap (λ (x : ℕ). has_bit (bit_or m x) j) e ∙ bit-or m (2 ^ i) j ∙ ap (λ (y : Bool). has_bit m j || y) (bit-other i j n) ∙ or-false (has_bit m j)
    where
      or-false : (y : Bool) → (y || false) ≡ y
      or-false true = refl
      or-false false = refl

module _ (row : List ℕ) (k t : ℕ) (p : 1 ≤ t) (q : t ≤ 128) (room : 2 * k + 2 ≤ length row) where
  -- the word w, of which the bit i is t's
  module _ (w i : ℕ) {x : ℕ} (e : x ≡ 2 ^ i) (l : w < length row) where
    abbrev after : List ℕ
    after = set row w (bit_or (get_or row w 0) x)

    same_word : has_bit (get_or after w 0) i ≡ true
    same_word = ap (λ (m : ℕ). has_bit m i) (get_or-set_same row w _ 0 l) ∙ bit-put (get_or row w 0) i e

    word_kept : (v j : ℕ) → (v ≡ w → j ≡ i → ⊥) → has_bit (get_or after v 0) j ≡ has_bit (get_or row v 0) j
    word_kept v j n = go (ℕ_discrete v w)
      where
        go : Dec (v ≡ w) → has_bit (get_or after v 0) j ≡ has_bit (get_or row v 0) j
        go (yes z) =
            ap (λ (v : ℕ). has_bit (get_or after v 0) j) z ∙ ap (λ (m : ℕ). has_bit m j) (get_or-set_same row w _ 0 l)
            ∙ bit_kept (get_or row w 0) i e j (n z) ∙ ap (λ (v : ℕ). has_bit (get_or row v 0) j) (sym z)
        go (no z) = ap (λ (m : ℕ). has_bit m j) (get_or-set_other row w v _ 0 z)

  pub put_first : {x : ℕ} → t ≤ 64 → x ≡ 2 ^ (t - 1) → Put k t row (set row (2 * k) (bit_or (get_or row (2 * k) 0) x))
  put_first {x} h e =
      let a = set row (2 * k) (bit_or (get_or row (2 * k) 0) x) in
      record {
        same = length-set row (2 * k) _;
        here = first a k t h ∙ same_word (2 * k) (t - 1) e (omega arith);
        others = λ j u r s n. go j u r s n (dec_le u 64);
      }
    where
      go : (j u : ℕ) → 1 ≤ u → u ≤ 128 → (j ≡ k → u ≡ t → ⊥) → Dec (u ≤ 64)
          → in_mask (set row (2 * k) (bit_or (get_or row (2 * k) 0) x)) j u ≡ in_mask row j u
      go j u r s n (yes l) =
          first _ j u l ∙ word_kept (2 * k) (t - 1) e (omega arith) (2 * j) (u - 1) (λ y z. n (omega arith) (omega arith)) ∙ sym (first row j u l)
      go j u r s n (no l) =
          second _ j u (omega arith) ∙ word_kept (2 * k) (t - 1) e (omega arith) (2 * j + 1) (u - 65) (λ y z. omega arith)
          ∙ sym (second row j u (omega arith))

  pub put_second : {x : ℕ} → 64 < t → x ≡ 2 ^ (t - 65) → Put k t row (set row (2 * k + 1) (bit_or (get_or row (2 * k + 1) 0) x))
  put_second {x} h e =
      let a = set row (2 * k + 1) (bit_or (get_or row (2 * k + 1) 0) x) in
      record {
        same = length-set row (2 * k + 1) _;
        here = second a k t h ∙ same_word (2 * k + 1) (t - 65) e (omega arith);
        others = λ j u r s n. go j u r s n (dec_le u 64);
      }
    where
      go : (j u : ℕ) → 1 ≤ u → u ≤ 128 → (j ≡ k → u ≡ t → ⊥) → Dec (u ≤ 64)
          → in_mask (set row (2 * k + 1) (bit_or (get_or row (2 * k + 1) 0) x)) j u ≡ in_mask row j u
      go j u r s n (yes l) =
          first _ j u l ∙ word_kept (2 * k + 1) (t - 65) e (omega arith) (2 * j) (u - 1) (λ y z. omega arith) ∙ sym (first row j u l)
      go j u r s n (no l) =
          second _ j u (omega arith)
          ∙ word_kept (2 * k + 1) (t - 65) e (omega arith) (2 * j + 1) (u - 65) (λ y z. n (omega arith) (omega arith))
          ∙ sym (second row j u (omega arith))

clash : false ≡ true → ⊥
clash e = let o : ◌≡◌ {A = ℕ} 0 1 = cc in omega arith

-- A BLOCK IN TWO MASKS
module _ (a : List ℕ) (i : ℕ) (b : List ℕ) (j : ℕ) where
  abbrev x : ℕ
  x = bit_and (get_or a (2 * i) 0) (get_or b (2 * j) 0)

  abbrev y : ℕ
  y = bit_and (get_or a (2 * i + 1) 0) (get_or b (2 * j + 1) 0)

  both : (m n p : ℕ) → has_bit (bit_and m n) p ≡ true → (has_bit m p ≡ true) × (has_bit n p ≡ true)
  both m n p e = go (has_bit m p) (has_bit n p) (sym (bit-and m n p) ∙ e)
    where
      go : (s t : Bool) → (s && t) ≡ true → (s ≡ true) × (t ≡ true)
      go true t e = (refl, e)
      go false t e = absurd (clash e)

  one_of : (m n p : ℕ) → has_bit m p ≡ true → has_bit n p ≡ true → bit_and m n ≡ 0 → ⊥
  one_of m n p e f z =
      let h : has_bit 0 p ≡ true = ap (λ (x : ℕ). has_bit x p) (sym z) ∙ bit-and m n p ∙ rw (e, f) in
      clash (sym (bit-none p) ∙ h)

  module _ (p : get_or a (2 * i) 0 < 2 ^ 64) (q : get_or b (2 * j) 0 < 2 ^ 64) (r : get_or a (2 * i + 1) 0 < 2 ^ 64) (s : get_or b (2 * j + 1) 0 < 2 ^ 64) where
    low : (x ≡ 0 → ⊥) → Common a i b j
    low n =
        let S = bit-some 64 x (and_lt 64 _ _ p q) n in
        let e = both _ _ S.place S.set in
        let t = suc S.place in
        let d : t - 1 ≡ S.place = omega arith in
        let l : t ≤ 64 = omega (arith, S.below) in
        record {
          block = t;
          range = (omega arith, omega (arith, S.below));
          one = first a i t l ∙ ap (has_bit (get_or a (2 * i) 0)) d ∙ e.0;
          other = first b j t l ∙ ap (has_bit (get_or b (2 * j) 0)) d ∙ e.1;
        }

    high : (y ≡ 0 → ⊥) → Common a i b j
    high n =
        let S = bit-some 64 y (and_lt 64 _ _ r s) n in
        let e = both _ _ S.place S.set in
        let t = S.place + 65 in
        let d : t - 65 ≡ S.place = omega arith in
        let l : 64 < t = omega arith in
        record {
          block = t;
          range = (omega arith, omega (arith, S.below));
          one = second a i t l ∙ ap (has_bit (get_or a (2 * i + 1) 0)) d ∙ e.0;
          other = second b j t l ∙ ap (has_bit (get_or b (2 * j + 1) 0)) d ∙ e.1;
        }

    some : (bit_or x y ≡ 0 → ⊥) → Common a i b j
    some n = go (ℕ_discrete x 0) (ℕ_discrete y 0)
      where
        go : Dec (x ≡ 0) → Dec (y ≡ 0) → Common a i b j
        go (no z) _ = low z
        go (yes z) (no w) = high w
        go (yes z) (yes w) = absurd (n (rw (z, w)))

    none : bit_or x y ≡ 0 → Common a i b j → ⊥
    none e C = let n = nothing x y e in go n (dec_le C.block 64)
      where
        go : (x ≡ 0) × (y ≡ 0) → Dec (C.block ≤ 64) → ⊥
        go n (yes l) = one_of _ _ (C.block - 1) (sym (first a i C.block l) ∙ C.one) (sym (first b j C.block l) ∙ C.other) n.0
        go n (no l) =
            let h : 64 < C.block = omega arith in
            one_of _ _ (C.block - 65) (sym (second a i C.block h) ∙ C.one) (sym (second b j C.block h) ∙ C.other) n.1

    pub meets : Meets a i b j (not (eqb (bit_or x y) 0))
    meets = go (ℕ_discrete (bit_or x y) 0)
      where
        go : Dec (bit_or x y ≡ 0) → Meets a i b j (not (eqb (bit_or x y) 0))
        go (yes z) = record {
          yes = λ t. absurd (clash (sym (ap not (eq-eqb _ _ z)) ∙ t));
          no = λ _. none z;
        }
        go (no z) = record {
          yes = λ _. some z;
          no = λ t. absurd (clash (sym t ∙ ap not (ne_eqb _ _ z)));
        }

-- A ROW OF ZEROS has nothing in a mask
pub zeros-empty : (n : ℕ) → Empty (replicate n 0)
unfolding Empty
zeros-empty n k t = go (dec_le t 64)
  where
    zeros : (n i : ℕ) → get_or (replicate {A = ℕ} n 0) i 0 ≡ 0
    zeros zero i = refl
    zeros (suc n) zero = refl
    zeros (suc n) (suc i) = zeros n i

    go : Dec (t ≤ 64) → in_mask (replicate n 0) k t ≡ false
    go (yes l) = first _ k t l ∙ ap (λ (m : ℕ). has_bit m (t - 1)) (zeros n (2 * k)) ∙ bit-none (t - 1)
    go (no l) = second _ k t (omega arith) ∙ ap (λ (m : ℕ). has_bit m (t - 65)) (zeros n (2 * k + 1)) ∙ bit-none (t - 65)
