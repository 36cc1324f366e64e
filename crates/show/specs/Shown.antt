-- A file as decimal words: `refused 1` for an odd number of bytes, `refused 3` for more than 65,535 words, else its words.
-- Rests on formats File and Listing, decimal Writing.
use Rattle.std.specs.Prelude.{true, false, List, ℕ, ◌+◌, ◌*◌, ltb, length}
use Rattle.formats.specs.File.{words_of, odd_bytes}
use Rattle.formats.specs.Listing.{refusal_of}
use Rattle.decimal.specs.Writing.{sheet_text}

abbrev pub most_shown : ℕ
most_shown = 65535

-- the bytes of one word more, and the most text
abbrev pub shown_file : ℕ
shown_file = 2 * (most_shown + 1)

abbrev pub shown_room : ℕ
shown_room = 6 * most_shown

unfoldable pub shown : List ℕ → List ℕ
shown bs =
    elim (odd_bytes bs) [
      | true ↦ refusal_of 1
      | false ↦ elim (ltb most_shown (length (words_of bs))) [ true ↦ refusal_of 3 | false ↦ sheet_text (words_of bs) ]
    ]
