-- The mode of a reading by its number, and the room of the bytes that it writes.
-- Rests on formats Limits, text_form Reading.
use Rattle.std.specs.Prelude.{true, false, ℕ, ◌*◌, eqb, ltb}
use Rattle.formats.specs.Limits.{word_limit}
use Rattle.text_form.specs.Reading.{most_words, Mode, between, within, comment}

-- a word has two bytes
abbrev pub bytes_size : ℕ
bytes_size = 2 * most_words

-- a mode by its number: a word's value so far, then one number between words and one in a comment
unfoldable pub mode_of : ℕ → Mode
mode_of m = elim (ltb m word_limit) [ true ↦ within m | false ↦ elim (eqb m word_limit) [ true ↦ between | false ↦ comment ] ]
