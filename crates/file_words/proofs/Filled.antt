-- A row whose first i words are those of a file, the rest as it was; one word more.
-- Rests on base Lists, formats File and Reading.
use mathlib.Core.Path.{◌≡◌, refl, sym, ap, ◌∙◌}
use mathlib.Core.List.{List, [], ◌∷◌, ◌++◌, map, append_assoc}
use Prim.Native.Nat.{ℕ, suc, ◌+◌, ◌*◌, ◌/◌, ◌<◌}
use native.Mathlib.Omega.{arith}
use lib.ListN.{length, get_or, set, take, drop, length-map}
use lib.Seq.{drop-cons, set_at, take_at}
use Rattle.base.specs.Lists.{from}
use Rattle.base.proofs.Lists.{from-length}
use Rattle.formats.specs.File.{word_of, words_of}
use Rattle.formats.proofs.Reading.{from-append}

-- the images of two lists in a row
map-append : {A B : Type 0} (f : A → B) (xs ys : List A) → map f (xs ++ ys) ≡ map f xs ++ map f ys
map-append f [] ys = refl
map-append {B = B} f (x ∷ xs) ys = ap (λ (l : List B). f x ∷ l) (map-append f xs ys)

module _ (bs : List ℕ) where
  -- the first i words
  unfoldable pub first : ℕ → List ℕ
  first i = map (word_of bs) (from 0 i)

  pub first-length : (i : ℕ) → length (first i) ≡ i
  unfolding first
  first-length i = length-map (from 0 i) (word_of bs) ∙ from-length i 0

  first_more : (i : ℕ) → first (i + 1) ≡ first i ++ (word_of bs i ∷ [])
  unfolding first from
  first_more i =
      let p : 0 + i ≡ i = omega arith in
      ap (map (word_of bs)) (from-append i 1 0) ∙ map-append (word_of bs) (from 0 i) (from (0 + i) 1)
      ∙ ap (λ (n : ℕ). first i ++ (word_of bs n ∷ [])) p

  pub record Filled (old new : List ℕ) (i : ℕ) : Type 0 where
    pub words : new ≡ first i ++ drop i old

  pub filled_none : (old : List ℕ) → Filled old old 0
  unfolding first from
  filled_none old = record { words = refl }

  pub filled_more : {old new : List ℕ} {i x : ℕ} → Filled old new i → i < length old → x ≡ get_or bs (2 * i) 0 + 256 * get_or bs (2 * i + 1) 0
      → Filled old (set new i x) (i + 1)
  unfolding word_of
  filled_more {old} {new} {i} {x} F l e =
      let p : i + 1 ≡ suc i = omega arith in
      let rest = drop (suc i) old in
      record {
        words = ap (λ (w : List ℕ). set w i x) F.words
            ∙ ap (λ (w : List ℕ). set (first i ++ w) i x) (drop-cons old i 0 l)
            ∙ set_at (first i) (get_or old i 0) rest x i (first-length i)
            ∙ ap (λ (y : ℕ). first i ++ (y ∷ rest)) e
            ∙ sym (append_assoc (first i) (word_of bs i ∷ []) rest)
            ∙ ap (λ (w : List ℕ). w ++ rest) (sym (first_more i))
            ∙ ap (λ (n : ℕ). first (i + 1) ++ drop n old) (sym p);
      }

  pub filled-all : {old new : List ℕ} {i n : ℕ} → Filled old new i → i ≡ n → n ≡ length bs / 2 → new ≡ words_of bs ++ drop n old
  unfolding first words_of
  filled-all {old} {n = n} F e q =
      F.words ∙ ap (λ (n : ℕ). first n ++ drop n old) e ∙ ap (λ (m : ℕ). first m ++ drop n old) q

-- THE WORDS OF A FILE, at the front of a row
pub words-length : (bs : List ℕ) → length (words_of bs) ≡ length bs / 2
unfolding words_of first
words-length bs = first-length bs (length bs / 2)

pub words-first : (bs row rest : List ℕ) (n : ℕ) → row ≡ words_of bs ++ rest → n ≡ length bs / 2 → take n row ≡ words_of bs
words-first bs row rest n e q = ap (take n) e ∙ take_at (words_of bs) rest n (words-length bs ∙ sym q)
