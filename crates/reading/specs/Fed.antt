-- What is promised of a text that comes piece by piece: the bytes of a piece, and the end.
-- Rests on digits Wrote, text_form Reading and Said, word_reading Held.
use Rattle.std.specs.Prelude.{◌≡◌, List, ◌++◌, ℕ, take}
use Rattle.digits.specs.Wrote.{Wrote}
use Rattle.text_form.specs.Reading.{start, read_on}
use Rattle.text_form.specs.Said.{encoded_bytes, encoded_said}
use Rattle.word_reading.specs.declared.Reading.{Reading}
use Rattle.word_reading.specs.Held.{Holds}
use Rattle.reading.specs.declared.Encoded.{Encoded}

-- whatever was read before: these bytes too are read
abbrev pub Feeds : List ℕ → List ℕ → Reading → List ℕ → Reading → Type 0
Feeds text row s new t = (old xs : List ℕ) → Holds old (read_on start xs) row s → Holds old (read_on start (xs ++ text)) new t

-- whatever was read: its bytes stand in the row, and what is said of it in the row for that
abbrev pub Leaves : List ℕ → Reading → List ℕ → List ℕ → List ℕ → Encoded → Type 0
Leaves row s new said saying r =
    (old xs : List ℕ) → Holds old (read_on start xs) row s
    → (take r.size new ≡ encoded_bytes xs) × Wrote said 0 (encoded_said xs) saying r.said
