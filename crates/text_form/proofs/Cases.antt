-- The reading of one byte, case by case, and the end of a text.
-- Rests on base Checks, formats Limits, specs Reading.
use mathlib.Core.Path.{◌≡◌, refl, sym, ap, ◌∙◌}
use mathlib.Core.Bool.{true, false}
use mathlib.Core.List.{List, [], ◌∷◌}
use mathlib.Core.Option.{Option, some, none}
use Prim.Native.Nat.{ℕ, suc, ◌+◌, ◌-◌, ◌*◌, ◌<◌, ◌≤◌}
use native.Mathlib.Omega.{arith}
use lib.Dec.{eqb}
use lib.ListN.{length}
use borrow.Author.Tests.{lt-ltb, le-ltb, eq-eqb, ne_eqb}
use Rattle.base.specs.Checks.{outside}
use Rattle.formats.specs.Limits.{word_limit}
use Rattle.text_form.specs.Reading.{most_count, next, between, within, comment, other, large, many, nothing, Fault, Read, value, in_comment}
use Rattle.text_form.specs.Reading.{flush, onward, next_line, faulty, blank, full, valued, word_byte, line_byte, text_byte, unless_faulty, worded}

-- COUNTING

pub next_more : (n : ℕ) → n < most_count → suc n ≡ next n
unfolding next
next_more n l = rw (lt-ltb n most_count l, next)

pub next-same : (n : ℕ) → most_count ≤ n → n ≡ next n
unfolding next
next-same n l = rw (le-ltb n most_count l, next)

-- BLANKS

pub blank-space : (b : ℕ) → b ≡ 32 → true ≡ blank b
unfolding blank
blank-space b e = rw (eq-eqb b 32 e)

pub blank-tab : (b : ℕ) → (b ≡ 32 → ⊥) → b ≡ 9 → true ≡ blank b
unfolding blank
blank-tab b n e = rw (ne_eqb b 32 n, eq-eqb b 9 e)

pub blank-last : (b : ℕ) → (b ≡ 32 → ⊥) → (b ≡ 9 → ⊥) → eqb b 13 ≡ blank b
unfolding blank
blank-last b n m = rw (ne_eqb b 32 n, ne_eqb b 9 m)

module _ (r : Read) (b : ℕ) where
  -- A BYTE OF A WORD

  pub below-digits : b < 48 → word_byte r b ≡ faulty (other b) r
  unfolding word_byte outside
  below-digits l = rw (lt-ltb b 48 l, word_byte)

  pub above-digits : 57 < b → word_byte r b ≡ faulty (other b) r
  unfolding word_byte outside
  above-digits l = rw (le-ltb b 48 (omega arith), lt-ltb 57 b l, word_byte)

  module _ (l : 48 ≤ b) (h : b ≤ 57) where
    pub digit-many : full r ≡ true → word_byte r b ≡ faulty many r
    unfolding word_byte outside
    digit-many f = rw (le-ltb b 48 l, le-ltb 57 b h, f, word_byte)

    module _ (f : full r ≡ false) (v : ℕ) (e : v ≡ value r.mode) where
      digit_value : word_byte r b ≡ valued r (10 * v + (b - 48))
      unfolding word_byte outside
      digit_value = rw (le-ltb b 48 l, le-ltb 57 b h, f, word_byte) (ap (λ (x : ℕ). valued r (10 * x + (b - 48))) (sym e))

      pub digit-more : 10 * v + (b - 48) < word_limit → word_byte r b ≡ onward (within (10 * v + (b - 48))) r
      unfolding valued
      digit-more m = digit_value ∙ rw (lt-ltb (10 * v + (b - 48)) word_limit m, valued)

      pub digit-large : word_limit ≤ 10 * v + (b - 48) → word_byte r b ≡ faulty (large (10 * v + (b - 48))) r
      unfolding valued
      digit-large m = digit_value ∙ rw (le-ltb (10 * v + (b - 48)) word_limit m, valued)

  -- A BYTE OF A LINE

  pub line-hash : b ≡ 35 → line_byte r b ≡ onward comment (flush r)
  unfolding line_byte
  line-hash e = rw (eq-eqb b 35 e, line_byte)

  pub line-blank : (b ≡ 35 → ⊥) → blank b ≡ true → line_byte r b ≡ onward between (flush r)
  unfolding line_byte
  line-blank n e = rw (ne_eqb b 35 n, e, line_byte)

  pub line_word : (b ≡ 35 → ⊥) → blank b ≡ false → line_byte r b ≡ word_byte r b
  unfolding line_byte
  line_word n e = rw (ne_eqb b 35 n, e, line_byte)

  -- A BYTE OF A TEXT

  pub text-newline : b ≡ 10 → text_byte r b ≡ next_line (flush r)
  unfolding text_byte
  text-newline e = rw (eq-eqb b 10 e, text_byte)

  pub text-comment : (b ≡ 10 → ⊥) → in_comment r.mode ≡ true → text_byte r b ≡ onward comment r
  unfolding text_byte
  text-comment n e = rw (ne_eqb b 10 n, e, text_byte)

  pub text-line : (b ≡ 10 → ⊥) → in_comment r.mode ≡ false → text_byte r b ≡ line_byte r b
  unfolding text_byte
  text-line n e = rw (ne_eqb b 10 n, e, text_byte)

-- AFTER A FAULT, AND WHERE THERE IS NONE

module _ (r q : Read) where
  pub with_none : r.fault ≡ none → unless_faulty r q ≡ q
  unfolding unless_faulty
  with_none e = ap (λ (o : Option Fault). elim o [ none ↦ q | some f ↦ r ]) e

  pub with-fault : {f : Fault} → r.fault ≡ some f → unless_faulty r q ≡ r
  unfolding unless_faulty
  with-fault e = ap (λ (o : Option Fault). elim o [ none ↦ q | some f ↦ r ]) e

-- THE END OF A TEXT

module _ (r : Read) where
  abbrev chosen : List ℕ → Read
  chosen ws = elim ws [ [] ↦ faulty nothing r | w ∷ ws ↦ r ]

  pub worded-nothing : length r.words ≡ 0 → worded r ≡ faulty nothing r
  unfolding worded
  worded-nothing l = go r.words refl
    where
      go : (ws : List ℕ) → r.words ≡ ws → worded r ≡ faulty nothing r
      go [] e = ap chosen e
      go (w ∷ ws) e = absurd (omega (arith, ap length e))

  pub worded-words : 0 < length r.words → worded r ≡ r
  unfolding worded
  worded-words l = go r.words refl
    where
      go : (ws : List ℕ) → r.words ≡ ws → worded r ≡ r
      go [] e = absurd (omega (arith, ap length e))
      go (w ∷ ws) e = ap chosen e
