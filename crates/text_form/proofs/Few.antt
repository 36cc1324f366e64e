-- No text has more words than the most.
-- Rests on base Checks, formats Limits, specs Reading.
use mathlib.Core.Path.{◌≡◌, refl, sym, ap, ◌∙◌}
use mathlib.Core.Bool.{Bool, true, false, ◌&&◌}
use mathlib.Core.List.{List, [], ◌∷◌}
use mathlib.Core.Option.{Option, some, none}
use Prim.Native.Nat.{ℕ, suc, ◌+◌, ◌-◌, ◌*◌, ◌≤◌}
use native.Mathlib.Omega.{arith}
use lib.Dec.{eqb, ltb}
use lib.ListN.{length, length-append}
use borrow.Author.Tests.{ltb-false}
use Rattle.base.specs.Checks.{outside}
use Rattle.formats.specs.Limits.{word_limit}
use Rattle.text_form.specs.Reading.{most_words, Mode, between, within, comment, Fault, Read, value, pending, outside_word, in_comment, flush, blank}
use Rattle.text_form.specs.Reading.{full, valued, word_byte, line_byte, text_byte, unless_faulty, step, start, read_on, worded, ended, read_words}

-- with the word that is being read
abbrev Few : Read → Type 0
Few r = length r.words + length (pending r.mode) ≤ most_words

flush-few : (r : Read) → Few r → Few (flush r)
unfolding flush pending
flush-few r h = omega (arith, h, length-append r.words (pending r.mode))

-- a word that begins, or goes on, where it is not one too many
word-few : (r : Read) → Few r → full r ≡ false → suc (length r.words) ≤ most_words
unfolding full outside_word pending
word-few r h e = go r.mode refl
  where
    begins : outside_word r.mode ≡ true → suc (length r.words) ≤ most_words
    begins q = ltb-false most_words (suc (length r.words)) (ap (λ b. b && ltb most_words (suc (length r.words))) (sym q) ∙ e)

    go : (m : Mode) → r.mode ≡ m → suc (length r.words) ≤ most_words
    go between q = begins (ap outside_word q)
    go comment q = begins (ap outside_word q)
    go (within n) q = omega (arith, h, ap (λ (m : Mode). length (pending m)) q)

valued-few : (r : Read) (n : ℕ) → Few r → full r ≡ false → Few (valued r n)
unfolding valued pending
valued-few r n h e = go (ltb n word_limit) refl
  where
    go : (b : Bool) → ltb n word_limit ≡ b → Few (valued r n)
    go true q = rw (q, valued) (omega (arith, word-few r h e))
    go false q = rw (q, valued) h

word-byte-few : (r : Read) (b : ℕ) → Few r → Few (word_byte r b)
unfolding word_byte
word-byte-few r b h = go (outside 48 57 b) refl (full r) refl
  where
    go : (x : Bool) → outside 48 57 b ≡ x → (y : Bool) → full r ≡ y → Few (word_byte r b)
    go true p y q = rw (p, word_byte) h
    go false p true q = rw (p, q, word_byte) h
    go false p false q = rw (p, q, word_byte) (valued-few r (10 * value r.mode + (b - 48)) h q)

line-byte-few : (r : Read) (b : ℕ) → Few r → Few (line_byte r b)
unfolding line_byte flush pending
line-byte-few r b h = go (eqb b 35) refl (blank b) refl
  where
    go : (x : Bool) → eqb b 35 ≡ x → (y : Bool) → blank b ≡ y → Few (line_byte r b)
    go true p y q = rw (p, line_byte) (flush-few r h)
    go false p true q = rw (p, q, line_byte) (flush-few r h)
    go false p false q = rw (p, q, line_byte) (word-byte-few r b h)

text-byte-few : (r : Read) (b : ℕ) → Few r → Few (text_byte r b)
unfolding text_byte flush pending
text-byte-few r b h = go (eqb b 10) refl (in_comment r.mode) refl
  where
    go : (x : Bool) → eqb b 10 ≡ x → (y : Bool) → in_comment r.mode ≡ y → Few (text_byte r b)
    go true p y q = rw (p, text_byte) (flush-few r h)
    go false p true q = rw (p, q, text_byte) (omega (arith, h))
    go false p false q = rw (p, q, text_byte) (line-byte-few r b h)

unless-few : (r q : Read) → Few r → Few q → Few (unless_faulty r q)
unfolding unless_faulty
unless-few r q h k = go r.fault
  where
    go : (o : Option Fault) → Few (elim o [ none ↦ q | some f ↦ r ])
    go none = k
    go (some f) = h

read-few : (r : Read) (bs : List ℕ) → Few r → Few (read_on r bs)
unfolding read_on step
read-few r [] h = h
read-few r (b ∷ bs) h = read-few (step r b) bs (unless-few r (text_byte r b) h (text-byte-few r b h))

worded-few : (r : Read) → Few r → Few (worded r)
unfolding worded
worded-few r h = go r.words refl
  where
    go : (ws : List ℕ) → r.words ≡ ws → Few (worded r)
    go [] e = rw (e, worded) (omega (arith, h, ap length e))
    go (w ∷ ws) e = rw (e, worded) (omega (arith, h, ap length e))

pub words-few : (bs : List ℕ) → length (read_words bs).words ≤ most_words
unfolding read_words ended start pending
words-few bs =
    let r = read_on start bs in
    let h : Few r = read-few start bs (omega arith) in
    omega (arith, unless-few r (worded (flush r)) h (worded-few (flush r) (flush-few r h)))
