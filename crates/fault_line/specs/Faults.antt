-- A fault by its numbers, and the room of the line that tells it.
-- Rests on text_form Reading.
use Rattle.std.specs.Prelude.{true, false, ℕ, ◌+◌, eqb}
use Rattle.text_form.specs.Reading.{What, other, large, many, nothing, Fault}

-- no number that a fault tells has more than seven digits
abbrev pub found_limit : ℕ
found_limit = 10000000

-- the room of a line that tells a fault: its place takes 34 bytes at most, what stood there 27, and a newline ends it
abbrev pub place_room : ℕ
place_room = 34

abbrev pub what_room : ℕ
what_room = 27

abbrev pub said_size : ℕ
said_size = place_room + what_room + 1

-- what stood where a fault is, by its number and what was found there
unfoldable pub what_of : ℕ → ℕ → What
what_of k x =
    elim (eqb k 1) [
      | true ↦ other x
      | false ↦ elim (eqb k 2) [ true ↦ large x | false ↦ elim (eqb k 3) [ true ↦ many | false ↦ nothing ] ]
    ]

-- the fault at this line and column
abbrev pub fault_by : ℕ → ℕ → ℕ → ℕ → Fault
fault_by l c k x = record { line = l; column = c; what = what_of k x }
