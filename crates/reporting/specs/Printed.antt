-- What a writer holds behind what it held before: what was handed back for the bytes that came, and at the end the report of all of them.
-- Rests on calls Report, framing Came, stream Ending.
use Rattle.std.specs.Prelude.{List, ◌++◌, ℕ, Option}
use Rattle.std.specs.Io.KnownBytes.{Appends}
use Rattle.calls.specs.Report.{report}
use Rattle.framing.specs.declared.Progress.{Progress}
use Rattle.framing.specs.Came.{Came}
use Rattle.stream.specs.declared.Closing.{Closing}
use Rattle.stream.specs.Ending.{Closed}
use Rattle.unused.specs.Marks.{Marks}

-- the bytes xs came, and what was handed back for them was written
pub record Printed (xs : List ℕ) (before now : Option (List ℕ)) (s : Progress) (row : List ℕ) (marks : Marks) : Type 0 where
  pub said : List ℕ
  pub came : Came xs said s row marks
  pub written : Appends before now said

-- THE NEXT BYTES
abbrev pub Prints : List ℕ → Option (List ℕ) → Progress → List ℕ → Marks → Option (List ℕ) → Progress → List ℕ → Marks → Type 0
Prints bytes old s row marks new t row' marks' =
    (xs : List ℕ) (before : Option (List ℕ)) → Printed xs before old s row marks → Printed (xs ++ bytes) before new t row' marks'

-- THE CLOSING PARTS, where what was handed back before was written: then the report was
abbrev pub Closes : Option (List ℕ) → Closing → Marks → Option (List ℕ) → Type 0
Closes old c marks new =
    (xs said : List ℕ) (before : Option (List ℕ)) → Closed xs said c marks → Appends before old said → Appends before new (report xs)

-- THE END OF THE INPUT, likewise
abbrev pub Finishes : Option (List ℕ) → Progress → Marks → Option (List ℕ) → Type 0
Finishes old s marks new =
    (xs : List ℕ) (before : Option (List ℕ)) (row : List ℕ) → Printed xs before old s row marks → Appends before new (report xs)
