-- FOR EVERY WAY OF CUTTING A TEXT into pieces, each given to `feed` with the row and the reading as the last call left them: what `finish` leaves
-- are the bytes of the whole text, and what is said of it. Rests on digits Wrote, text_form Reading and Said, word_reading Held, specs Fed.
use mathlib.Core.Path.{◌≡◌}
use mathlib.Core.List.{List, [], ◌++◌}
use Prim.Native.Nat.{ℕ}
use lib.ListN.{take}
use Rattle.digits.specs.Wrote.{Wrote}
use Rattle.text_form.specs.Reading.{start, read_on}
use Rattle.text_form.specs.Said.{encoded_bytes, encoded_said}
use Rattle.word_reading.specs.declared.Reading.{Reading}
use Rattle.word_reading.specs.Held.{Holds, Able}
use Rattle.reading.specs.declared.Encoded.{Encoded}
use Rattle.reading.specs.Fed.{Feeds, Leaves}

-- the pieces of xs were given, first to last: `begin` promised the first, and each `feed` the others
pub data Fed (old : List ℕ) : List ℕ → List ℕ → Reading → Type 0 where
  begun : {s : Reading} → Able s old → Holds old start old s → Fed old [] old s
  more : {xs row new : List ℕ} {s t : Reading} (text : List ℕ) → Fed old xs row s → Able t new → Feeds text row s new t → Fed old (xs ++ text) new t

-- so that the next call may be made
pub pieces-able : {old xs row : List ℕ} {s : Reading} → Fed old xs row s → Able s row
pieces-able (begun a h) = a
pieces-able (more text f a h) = a

pieces-held : {old xs row : List ℕ} {s : Reading} → Fed old xs row s → Holds old (read_on start xs) row s
unfolding read_on
pieces-held (begun a h) = h
pieces-held (more {xs = xs} text f a h) = h _ xs (pieces-held f)

pub pieces-read : {old xs row : List ℕ} {s : Reading} → Fed old xs row s → (new said saying : List ℕ) (r : Encoded) → Leaves row s new said saying r
    → (take r.size new ≡ encoded_bytes xs) × Wrote said 0 (encoded_said xs) saying r.said
pieces-read {old} {xs} f new said saying r h = h old xs (pieces-held f)
