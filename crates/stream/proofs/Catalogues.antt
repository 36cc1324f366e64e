-- The sheets of a catalogue by its bytes: whole ones, each behind its length, and then the rest.
-- Rests on base Lists, formats Catalogue and File, file_words Filled and Pairs, framing Came.
use mathlib.Core.Path.{◌≡◌, refl, sym, ap, ◌∙◌}
use mathlib.Core.List.{List, [], ◌∷◌, ◌++◌, map, append_assoc}
use mathlib.Core.Option.{Option, some, none}
use Prim.Native.Nat.{ℕ, zero, suc, ◌+◌, ◌*◌, ◌<◌}
use native.Mathlib.Omega.{arith}
use borrow.Author.Tests.{lt-ltb, le-ltb}
use lib.ListN.{length, length-append}
use lib.Seq.{take_at, drop_at}
use Rattle.base.specs.Lists.{from}
use Rattle.formats.specs.File.{words_of}
use Rattle.formats.specs.Catalogue.{sheets_up_to}
use Rattle.file_words.proofs.Filled.{words-length}
use Rattle.file_words.proofs.Pairs.{words_more, words_append}
use Rattle.framing.specs.Came.{Whole, none as no-sheets, more}

-- the sheets of whole bodies
abbrev pub sheets_of : List (List ℕ) → List (Option (List ℕ))
sheets_of bodies = map (λ body. some (words_of body)) bodies

module _ (k a b : ℕ) (body : List ℕ) where
  -- a length and as many words
  first-sheet : (ys : List ℕ) → length body ≡ 2 * (a + 256 * b)
      → sheets_up_to (suc k) (words_of (a ∷ b ∷ (body ++ ys))) ≡ some (words_of body) ∷ sheets_up_to k (words_of ys)
  unfolding sheets_up_to
  first-sheet ys e =
      let n = a + 256 * b in
      let ws = words_of body ++ words_of ys in
      let l : length (words_of body) ≡ n = omega (arith, words-length body, e) in
      ap (sheets_up_to (suc k)) (words_more a b (body ++ ys) ∙ ap (λ (w : List ℕ). n ∷ w) (words_append n body ys e))
      ∙ rw (le-ltb (length ws) n (omega (arith, l, length-append (words_of body) (words_of ys))), sheets_up_to, take_at (words_of body) (words_of ys) n l, drop_at (words_of body) (words_of ys) n l)

  -- a length and fewer words: "A length beyond the words left"
  pub cut-sheet : length body < 2 * (a + 256 * b) → sheets_up_to (suc k) (words_of (a ∷ b ∷ body)) ≡ none ∷ []
  unfolding sheets_up_to
  cut-sheet l =
      ap (sheets_up_to (suc k)) (words_more a b body)
      ∙ rw (lt-ltb (length (words_of body)) (a + 256 * b) (omega (arith, words-length body, l)), sheets_up_to)

-- no length, or half of one
pub no-sheet : (k : ℕ) → sheets_up_to k (words_of []) ≡ []
unfolding sheets_up_to words_of from
no-sheet zero = refl
no-sheet (suc k) = refl

pub half-sheet : (k a : ℕ) → sheets_up_to k (words_of (a ∷ [])) ≡ []
unfolding sheets_up_to words_of from
half-sheet zero a = refl
half-sheet (suc k) a = refl

map-append : (xs ys : List (List ℕ)) → sheets_of (xs ++ ys) ≡ sheets_of xs ++ sheets_of ys
map-append [] ys = refl
map-append (x ∷ xs) ys = ap (λ (os : List (Option (List ℕ))). some (words_of x) ∷ os) (map-append xs ys)

-- WHOLE SHEETS, AND THEN THE SHEETS OF THE REST
pub whole-sheets : {xs : List ℕ} {bodies : List (List ℕ)} → Whole xs bodies → (k : ℕ) (ys : List ℕ)
    → sheets_up_to (length bodies + k) (words_of (xs ++ ys)) ≡ sheets_of bodies ++ sheets_up_to k (words_of ys)
whole-sheets no-sheets k ys = let n : 0 + k ≡ k = omega arith in ap (λ (m : ℕ). sheets_up_to m (words_of ys)) n
whole-sheets (more xs bodies a b body W e) k ys =
    let f = a ∷ b ∷ body in
    let n : length (bodies ++ (body ∷ [])) + k ≡ length bodies + suc k = omega (arith, length-append bodies (body ∷ [])) in
    ap (λ (m : ℕ). sheets_up_to m (words_of ((xs ++ f) ++ ys))) n
    ∙ ap (λ (w : List ℕ). sheets_up_to (length bodies + suc k) (words_of w)) (append_assoc xs f ys)
    ∙ whole-sheets W (suc k) (f ++ ys)
    ∙ ap (λ (os : List (Option (List ℕ))). sheets_of bodies ++ os) (first-sheet k a b body ys e)
    ∙ sym (append_assoc (sheets_of bodies) (some (words_of body) ∷ []) (sheets_up_to k (words_of ys)))
    ∙ ap (λ (os : List (Option (List ℕ))). os ++ sheets_up_to k (words_of ys)) (sym (map-append bodies (body ∷ [])))
