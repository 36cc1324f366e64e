-- Modes by their numbers: the word that is being read, its value, its bytes, and whether there is room for it.
-- Rests on base Lists and Truth, formats Limits and File, text_form Reading, specs Modes.
use mathlib.Core.Path.{◌≡◌, refl, sym, ap, ◌∙◌}
use mathlib.Core.Bool.{Bool, true, false, ◌&&◌}
use mathlib.Core.List.{List, []}
use Prim.Native.Nat.{ℕ, ◌+◌, ◌-◌, ◌<◌, ◌≤◌}
use native.Mathlib.Omega.{arith}
use lib.Dec.{eqb, ltb}
use lib.ListN.{length}
use borrow.Author.Tests.{lt-ltb, le-ltb, ltb-true, eqb-true, eqb-false, ne_eqb}
use Rattle.base.specs.Lists.{each}
use Rattle.base.proofs.Truth.{same_test}
use Rattle.formats.specs.Limits.{word_limit}
use Rattle.text_form.specs.Reading.{Mode, between, within, comment, value, pending, outside_word, in_comment}
use Rattle.formats.specs.File.{word_bytes, bytes_of}
use Rattle.word_bytes.specs.Modes.{bytes_size, mode_of}

pub mode-within : (m : ℕ) → m < word_limit → mode_of m ≡ within m
unfolding mode_of
mode-within m l = rw (lt-ltb m word_limit l, mode_of)

pub mode-between : mode_of word_limit ≡ between
unfolding mode_of
mode-between = refl

pub mode-comment : (m : ℕ) → word_limit < m → mode_of m ≡ comment
unfolding mode_of
mode-comment m l = rw (le-ltb m word_limit (omega arith), ne_eqb m word_limit (λ e. omega arith), mode_of)

-- outside a word
module _ (m : ℕ) (l : word_limit ≤ m) where
  apart : {A : Type 0} (f : Mode → A) (x : A) → f between ≡ x → f comment ≡ x → f (mode_of m) ≡ x
  unfolding mode_of
  apart f x p q = go (eqb m word_limit) refl
    where
      go : (b : Bool) → eqb m word_limit ≡ b → f (mode_of m) ≡ x
      go true e = rw (le-ltb m word_limit l, e, mode_of) p
      go false e = rw (le-ltb m word_limit l, e, mode_of) q

  pub value_none : value (mode_of m) ≡ 0
  unfolding value
  value_none = apart value 0 refl refl

  pub pending-none : pending (mode_of m) ≡ []
  unfolding pending
  pending-none = apart pending [] refl refl

  pub outside-yes : outside_word (mode_of m) ≡ true
  unfolding outside_word
  outside-yes = apart outside_word true refl refl

module _ (m : ℕ) (l : m < word_limit) where
  pub value-within : value (mode_of m) ≡ m
  unfolding value
  value-within = ap value (mode-within m l)

  pub pending-bytes : bytes_of (pending (mode_of m)) ≡ word_bytes m
  unfolding pending bytes_of each
  pending-bytes = ap (λ (x : Mode). bytes_of (pending x)) (mode-within m l)

  pub outside-no : outside_word (mode_of m) ≡ false
  unfolding outside_word
  outside-no = ap outside_word (mode-within m l)

pub comment-yes : (m : ℕ) → word_limit < m → in_comment (mode_of m) ≡ true
unfolding in_comment
comment-yes m l = ap in_comment (mode-comment m l)

pub comment-no : (m : ℕ) → m ≤ word_limit → in_comment (mode_of m) ≡ false
unfolding in_comment
comment-no m l = go (eqb m word_limit) refl
  where
    go : (b : Bool) → eqb m word_limit ≡ b → in_comment (mode_of m) ≡ false
    go true e = ap (λ (n : ℕ). in_comment (mode_of n)) (eqb-true m word_limit e) ∙ ap in_comment mode-between
    go false e = let n = eqb-false m word_limit e in ap in_comment (mode-within m (omega arith))

-- what a flush writes has at most two bytes
module _ (m : ℕ) where
  pub pending-two : m < word_limit → length (bytes_of (pending (mode_of m))) ≡ 2
  pending-two l = ap length (pending-bytes m l)

  pub pending-no : word_limit ≤ m → length (bytes_of (pending (mode_of m))) ≡ 0
  unfolding bytes_of each
  pending-no l = ap (λ (w : List ℕ). length (bytes_of w)) (pending-none m l)

-- ROOM

-- two numbers are in order where two others are
pub same-order : (a b c d : ℕ) → (a < b → c < d) → (c < d → a < b) → ltb a b ≡ ltb c d
same-order a b c d f g =
    same_test (ltb a b) (ltb c d) (λ e. lt-ltb c d (f (ltb-true a b e))) (λ e. lt-ltb a b (g (ltb-true c d e)))

-- is a row with so many bytes full?
module _ (size m : ℕ) where
  pub full-within : m < word_limit → false ≡ outside_word (mode_of m) && ltb bytes_size (size + 2)
  full-within l = ap (λ b. b && ltb bytes_size (size + 2)) (sym (outside-no m l))

  pub full-outside : word_limit ≤ m → ltb (bytes_size - 2) size ≡ outside_word (mode_of m) && ltb bytes_size (size + 2)
  full-outside l =
      same-order (bytes_size - 2) size bytes_size (size + 2) (λ k. omega arith) (λ k. omega arith)
      ∙ ap (λ b. b && ltb bytes_size (size + 2)) (sym (outside-yes m l))
