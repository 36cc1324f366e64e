-- A line of words, part by part as it is written.
-- Rests on base Lists, formats Listing, specs Spaced.
use mathlib.Core.Path.{◌≡◌, refl, sym, ap, ◌∙◌}
use mathlib.Core.List.{List, [], ◌∷◌, ◌++◌, map, append_assoc}
use Prim.Native.Nat.{ℕ}
use Rattle.base.specs.Lists.{each}
use Rattle.formats.specs.Listing.{decimal, line}
use Rattle.digits.specs.Spaced.{spaced}

abbrev pub newline_text : List ℕ
newline_text = 10 ∷ []

-- a line that ends with what f makes of some things
pub words-line : {A : Type 0} (f : A → List ℕ) (x : List ℕ) (ts : List A) → line (x ∷ map f ts) ≡ x ++ (each (λ t. 32 ∷ f t) ts ++ newline_text)
unfolding line each
words-line f x [] = refl
words-line f x (t ∷ ts) =
    ap (λ (w : List ℕ). x ++ (32 ∷ w)) (words-line f (f t) ts ∙ sym (append_assoc (f t) (each (λ t. 32 ∷ f t) ts) newline_text))

-- with numbers
pub numbers-line : (x : List ℕ) (ts : List ℕ) → line (x ∷ map decimal ts) ≡ x ++ (each spaced ts ++ newline_text)
unfolding spaced
numbers-line x ts = words-line decimal x ts
