-- A text in two parts, read on; what is written at its end.
-- Rests on formats File, specs Reading and Said.
use mathlib.Core.Path.{◌≡◌, refl, sym, ap}
use mathlib.Core.List.{List, [], ◌∷◌, ◌++◌}
use mathlib.Core.Option.{Option, some, none}
use Prim.Native.Nat.{ℕ}
use Rattle.text_form.specs.Reading.{Fault, Read, step, read_on, read_words}
use Rattle.formats.specs.File.{bytes_of}
use Rattle.text_form.specs.Said.{said_text, encoded_bytes, encoded_said}

-- reading on: a text in two parts
pub read-append : (r : Read) (xs ys : List ℕ) → read_on r (xs ++ ys) ≡ read_on (read_on r xs) ys
unfolding read_on
read-append r [] ys = refl
read-append r (x ∷ xs) ys = read-append (step r x) xs ys

module _ (xs : List ℕ) where
  -- the bytes, and nothing is said; or no bytes, and the fault is told
  module _ (e : (read_words xs).fault ≡ none) where
    pub encoded-bytes : bytes_of (read_words xs).words ≡ encoded_bytes xs
    unfolding encoded_bytes
    encoded-bytes = ap (λ (o : Option Fault). elim o [ none ↦ bytes_of (read_words xs).words | some f ↦ [] ]) (sym e)

    pub encoded-quiet : [] ≡ encoded_said xs
    unfolding encoded_said
    encoded-quiet = ap (λ (o : Option Fault). elim o [ none ↦ [] | some f ↦ said_text f ]) (sym e)

  module _ {f : Fault} (e : (read_words xs).fault ≡ some f) where
    pub encoded-nothing : [] ≡ encoded_bytes xs
    unfolding encoded_bytes
    encoded-nothing = ap (λ (o : Option Fault). elim o [ none ↦ bytes_of (read_words xs).words | some f ↦ [] ]) (sym e)

    pub encoded-told : said_text f ≡ encoded_said xs
    unfolding encoded_said
    encoded-told = ap (λ (o : Option Fault). elim o [ none ↦ [] | some f ↦ said_text f ]) (sym e)
