-- What `feed_piece` promises: the bytes of a piece came, each once and in order; that what is handed back is printed says Printed.
-- Rests on framing Came.
use Rattle.std.specs.Prelude.{List, ◌++◌, ℕ}
use Rattle.framing.specs.declared.Progress.{Progress}
use Rattle.framing.specs.Came.{Came}
use Rattle.unused.specs.Marks.{Marks}

-- the bytes xs came, and something was handed back
pub record Taken (xs : List ℕ) (s : Progress) (row : List ℕ) (marks : Marks) : Type 0 where
  pub said : List ℕ
  pub came : Came xs said s row marks

-- THE NEXT BYTES
abbrev pub Takes : List ℕ → Progress → List ℕ → Marks → Progress → List ℕ → Marks → Type 0
Takes bytes s row marks s' row' marks' = (xs : List ℕ) → Taken xs s row marks → Taken (xs ++ bytes) s' row' marks'
