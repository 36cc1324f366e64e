-- A row of words as lines of decimal words: a sheet's header and each of its records in a line, any other row a word a line.
-- Rests on formats GraphSheet, BoundedSheet and Listing.
use Rattle.std.specs.Prelude.{true, false, List, [], ◌∷◌, ◌++◌, map, ℕ, ◌+◌, ◌*◌, eqb, length, take, drop, replicate}
use Rattle.formats.specs.GraphSheet.{header, sheet_length}
use Rattle.formats.specs.BoundedSheet.{heading, bounded_length}
use Rattle.formats.specs.Listing.{decimal, line}

-- the header's h words, n records of k words, e edge records of two
unfoldable pub records : ℕ → ℕ → ℕ → ℕ → List ℕ
records h n k e = h ∷ (replicate n k ++ replicate e 2)

-- how many words each line has: by the length, a graph sheet, a bounded sheet, or neither
unfoldable pub layout : List ℕ → List ℕ
layout ws =
    elim (eqb (length ws) (sheet_length (header ws))) [
      | true ↦ records (header ws).records (header ws).blocks 2 (header ws).edges
      | false ↦
          elim (eqb (length ws) (bounded_length (heading ws))) [
            | true ↦ records (heading ws).records (heading ws).copies 3 (heading ws).edges
            | false ↦ replicate (length ws) 1
          ]
    ]

-- lines of so many words each
unfoldable pub lines_text : List ℕ → List ℕ → List ℕ
lines_text [] ws = []
lines_text (k ∷ ks) ws = line (map decimal (take k ws)) ++ lines_text ks (drop k ws)

unfoldable pub sheet_text : List ℕ → List ℕ
sheet_text ws = lines_text (layout ws) ws

-- how many words there are in lines
unfoldable pub total : List ℕ → ℕ
total [] = 0
total (k ∷ ks) = k + total ks

-- a word takes at most five digits and what parts it from the next
abbrev pub sheet_room : List ℕ → ℕ
sheet_room ws = 6 * length ws
