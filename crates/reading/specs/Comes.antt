-- What is promised of a text that comes piece by piece to a reading that keeps its bytes: the bytes of a piece, and the end.
-- Rests on text_form Reading and Said, fault_line Kinds, Held.
use Rattle.std.specs.Prelude.{◌≡◌, List, [], ◌∷◌, ◌++◌, ℕ, Result, IfOk, IfErr}
use Rattle.std.specs.Borrow.{Bor}
use Rattle.text_form.specs.Reading.{start, read_on}
use Rattle.text_form.specs.Said.{encoded_bytes, encoded_said}
use Rattle.fault_line.specs.Kinds.{line_text}
use Rattle.fault_line.specs.declared.kinds.TextFault.{TextFault}
use Rattle.reading.specs.declared.keeping.Reading.{Reading}
use Rattle.reading.specs.Held.{Holds}

-- whatever was read before: these bytes too are read
abbrev pub Feeds : List ℕ → Reading → Reading → Type 0
Feeds text s t = (xs : List ℕ) → Holds (read_on start xs) s → Holds (read_on start (xs ++ text)) t

-- what a text comes to: its bytes, and nothing is said; or no bytes, and what is said is the line of its fault, ended by a newline (10)
abbrev pub Comes : Result (Bor (List ℕ)) TextFault → List ℕ → Type 0
Comes r xs =
    IfOk r (λ bytes. (bytes.now ≡ encoded_bytes xs) × ([] ≡ encoded_said xs))
    × IfErr r (λ fault. ([] ≡ encoded_bytes xs) × (line_text fault ++ (10 ∷ []) ≡ encoded_said xs))

-- whatever was read
abbrev pub Leaves : Reading → Result (Bor (List ℕ)) TextFault → Type 0
Leaves s r = (xs : List ℕ) → Holds (read_on start xs) s → Comes r xs
