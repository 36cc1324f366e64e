-- The operations program pinned by rows of one list: a file's bytes, and what is written for them.
-- Rests on formats Samples.
use Rattle.std.specs.Prelude.{List, [], ◌∷◌, ◌++◌, ℕ}
use Rattle.formats.specs.Samples.{in_bytes, lines}

-- block 3 to itself and to the exit, a budget of 300, with this word in the place of its cost, and what comes behind the edges
unfoldable pub sheet : ℕ → List ℕ → List ℕ
sheet c rest = 3 ∷ 3 ∷ 300 ∷ 0 ∷ 1 ∷ 0 ∷ 0 ∷ c ∷ 2 ∷ 3 ∷ 0 ∷ 3 ∷ 3 ∷ 2 ∷ 0 ∷ rest

unfoldable pub cases : List (List ℕ × List ℕ)
cases =
    -- a conversion: operations 15 and 8
    (in_bytes (sheet 1 (2 ∷ 15 ∷ 2 ∷ 8 ∷ 0 ∷ [])), in_bytes (sheet 10 []))
    -- an odd number of bytes is 1, whatever they are; so is a file of less than 3 words
    ∷ (in_bytes (sheet 1 (2 ∷ 15 ∷ 2 ∷ 8 ∷ 0 ∷ [])) ++ (0 ∷ []), lines ("refused 1" ∷ []))
    ∷ (in_bytes (sheet 1 (1 ∷ 16 ∷ 0 ∷ [])) ++ (0 ∷ []), lines ("refused 1" ∷ []))
    ∷ (0 ∷ [], lines ("refused 1" ∷ []))
    ∷ ([], lines ("refused 1" ∷ []))
    ∷ (3 ∷ 0 ∷ 3 ∷ 0 ∷ [], lines ("refused 1" ∷ []))
    -- a graph sheet, an operation above 15
    ∷ (in_bytes (sheet 1 []), lines ("refused 3" ∷ []))
    ∷ (in_bytes (sheet 1 (1 ∷ 16 ∷ 0 ∷ [])), lines ("refused 42" ∷ []))
    ∷ []
