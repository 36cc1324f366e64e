-- What the numbers with which a text is read, and the row of bytes, hold of what has been read.
-- Rests on formats Limits and File, digits Wrote, text_form Reading, fault_line Faults, word_bytes Modes.
use Rattle.std.specs.Prelude.{◌≡◌, true, false, List, ℕ, ◌+◌, ◌<◌, ◌≤◌, eqb, length}
use Rattle.std.proofs.Math.Option.{Option, some, none}
use Rattle.formats.specs.Limits.{word_limit}
use Rattle.digits.specs.Wrote.{Wrote}
use Rattle.text_form.specs.Reading.{most_count, Fault, Read}
use Rattle.formats.specs.File.{bytes_of}
use Rattle.fault_line.specs.Faults.{found_limit, fault_by}
use Rattle.word_bytes.specs.Modes.{bytes_size, mode_of}
use Rattle.word_reading.specs.declared.Reading.{Reading}

-- the fault that the numbers tell stands where the reading stopped
abbrev pub fault_at : Reading → Fault
fault_at s = fault_by s.line s.column s.fault s.found

unfoldable pub fault_of : Reading → Option Fault
fault_of s = elim (eqb s.fault 0) [ true ↦ none | false ↦ some (fault_at s) ]

-- r has been read, and its words were written into the row old
pub record Holds (old : List ℕ) (r : Read) (row : List ℕ) (s : Reading) : Type 0 where
  pub wrote : Wrote old 0 (bytes_of r.words) row s.size
  pub is-line : s.line ≡ r.line
  pub is-column : s.column ≡ r.column
  pub is-mode : mode_of s.mode ≡ r.mode
  pub is-fault : fault_of s ≡ r.fault

-- the numbers are small enough to read on with this row: there is room for the word that is being read
pub record Able (s : Reading) (row : List ℕ) : Type 0 where
  pub all : length row ≡ bytes_size
  pub inside : s.size ≤ bytes_size
  pub room : s.mode < word_limit → s.size + 2 ≤ bytes_size
  pub small_line : s.line ≤ most_count
  pub small-column : s.column ≤ most_count
  pub small-found : s.found < found_limit

-- one step, of which f says what it makes of what has been read
abbrev pub Turns : (Read → Read) → List ℕ → Reading → List ℕ → Reading → Type 0
Turns f row s new t = (old : List ℕ) (r : Read) → Holds old r row s → Holds old (f r) new t
