-- The words of a file's bytes, two bytes at a time.
-- Rests on base Lists, formats File.
use mathlib.Core.Path.{◌≡◌, refl, sym, ap, ap₂, ◌∙◌}
use mathlib.Core.List.{List, [], ◌∷◌, ◌++◌, map}
use Prim.Native.Nat.{ℕ, zero, suc, ◌+◌, ◌*◌, ◌/◌}
use native.Mathlib.Omega.{arith}
use lib.ListN.{length, get_or}
use Rattle.base.specs.Lists.{from}
use Rattle.formats.specs.File.{word_of, words_of}

later : (f g : ℕ → ℕ) → ((i : ℕ) → f (suc i) ≡ g i) → (n a : ℕ) → map f (from (suc a) n) ≡ map g (from a n)
unfolding from
later f g h zero a = refl
later f g h (suc n) a = ap₂ (λ (x : ℕ) (xs : List ℕ). x ∷ xs) (h a) (later f g h n (suc a))

pub words_more : (x y : ℕ) (bs : List ℕ) → words_of (x ∷ y ∷ bs) ≡ (x + 256 * y) ∷ words_of bs
unfolding words_of word_of from
words_more x y bs =
    let p : length (x ∷ y ∷ bs) / 2 ≡ suc (length bs / 2) = omega arith in
    ap (λ (n : ℕ). map (word_of (x ∷ y ∷ bs)) (from 0 n)) p
    ∙ ap (λ (ws : List ℕ). (x + 256 * y) ∷ ws) (later (word_of (x ∷ y ∷ bs)) (word_of bs) next (length bs / 2) 0)
  where
    next : (i : ℕ) → word_of (x ∷ y ∷ bs) (suc i) ≡ word_of bs i
    next i =
        let p : 2 * suc i ≡ suc (suc (2 * i)) = omega arith in
        let q : 2 * suc i + 1 ≡ suc (suc (2 * i + 1)) = omega arith in
        ap₂ (λ (a b : ℕ). get_or (x ∷ y ∷ bs) a 0 + 256 * get_or (x ∷ y ∷ bs) b 0) p q

-- behind an even number of bytes new words begin
pub words_append : (n : ℕ) (xs ys : List ℕ) → length xs ≡ 2 * n → words_of (xs ++ ys) ≡ words_of xs ++ words_of ys
unfolding words_of from
words_append zero [] ys e = refl
words_append zero (x ∷ xs) ys e = absurd (omega (arith, e))
words_append (suc n) [] ys e = absurd (omega (arith, e))
words_append (suc n) (x ∷ []) ys e = absurd (omega (arith, e))
words_append (suc n) (x ∷ y ∷ xs) ys e =
    words_more x y (xs ++ ys) ∙ ap (λ (ws : List ℕ). (x + 256 * y) ∷ ws) (words_append n xs ys (omega (arith, e)))
    ∙ ap (λ (ws : List ℕ). ws ++ words_of ys) (sym (words_more x y xs))
