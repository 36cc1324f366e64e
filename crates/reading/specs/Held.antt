-- What a reading that keeps its bytes holds of what has been read, by word_reading Held of its row and its progress.
-- Rests on text_form Reading, word_reading Held.
use Rattle.std.specs.Prelude.{◌≡◌, ◌<◌}
use Rattle.text_form.specs.Reading.{Read}
use Rattle.word_reading.specs.Held.{Holds as Holding, Able as Abler}
use Rattle.reading.specs.declared.keeping.Reading.{Reading}

-- r has been read, and the bytes of its words stand in the row; a byte that its fault tells is a byte
pub record Holds (r : Read) (s : Reading) : Type 0 where
  pub is-read : Holding s.row r s.row s.progress
  pub is-byte : s.progress.fault ≡ 1 → s.progress.found < 256

-- there is room for the word that is being read
abbrev pub Able : Reading → Type 0
Able s = Abler s.progress s.row
