-- What is shown of a file, by what is kept of it.
-- Rests on file_words Filled, kept Held, specs Shown.
use mathlib.Core.Path.{◌≡◌, sym, ap, ◌∙◌}
use mathlib.Core.Bool.{Bool, true, false}
use mathlib.Core.List.{List}
use Prim.Native.Nat.{ℕ, ◌≤◌, ◌<◌}
use native.Mathlib.Decide.{dec_le}
use native.Mathlib.Omega.{arith}
use borrow.Author.Tests.{lt-ltb, le-ltb}
use lib.ListN.{length, take}
use lib.Seq.{length-take-le, take_all}
use Rattle.formats.specs.File.{words_of}
use Rattle.formats.specs.Listing.{refusal_of}
use Rattle.decimal.specs.Writing.{sheet_text}
use Rattle.file_words.proofs.Filled.{words-length}
use Rattle.kept.specs.Held.{Held, holding}
use Rattle.show.specs.Shown.{most_shown, shown_file, shown}

module _ {xs row : List ℕ} {n : ℕ} {odd : Bool} (H : Held xs row (holding n odd)) (l : length row ≡ shown_file) where
  pub shown-odd : odd ≡ true → refusal_of 1 ≡ shown xs
  unfolding shown
  shown-odd e = rw (sym H.odd ∙ e, shown)

  module _ (e : odd ≡ false) where
    counted : n ≡ length (take (length row) xs)
    counted = sym (length-take-le n row H.room) ∙ ap length H.bytes

    pub shown-long : length row ≤ n → refusal_of 3 ≡ shown xs
    unfolding shown
    shown-long k = rw (sym H.odd ∙ e, lt-ltb most_shown (length (words_of xs)) (omega (arith, words-length xs, go (dec_le (length row) (length xs)))), shown)
      where
        go : Dec (length row ≤ length xs) → shown_file ≤ length xs
        go (yes p) = omega arith
        go (no p) = omega (arith, counted, ap length (take_all (length row) xs (omega arith)))

    pub shown-words : n < length row → sheet_text (words_of (take n row)) ≡ shown xs
    unfolding shown
    shown-words k =
        rw (sym H.odd ∙ e, le-ltb most_shown (length (words_of xs)) (omega (arith, words-length xs, whole)), shown)
        (ap (λ (bs : List ℕ). sheet_text (words_of bs)) (H.bytes ∙ take_all (length row) xs (omega (arith, whole))))
      where
        go : Dec (length row ≤ length xs) → length xs ≡ n
        go (yes p) = absurd (omega (arith, counted, length-take-le (length row) xs p))
        go (no p) = sym (counted ∙ ap length (take_all (length row) xs (omega arith)))

        whole : length xs ≡ n
        whole = go (dec_le (length row) (length xs))
