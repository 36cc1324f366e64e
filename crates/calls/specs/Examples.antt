-- The starred examples of document 01 ("Ribbon example and edges") as rows of one list, each case with what it must come out as.
-- Rests on formats Samples, Cases.
use Rattle.std.specs.Prelude.{List, [], ◌∷◌, ℕ}
use Rattle.formats.specs.Samples.{paper, loop, twice, least, in_bytes, lines}
use Rattle.calls.specs.Cases.{Case, sheet_of, listing_for}

-- of an accepted build: 0, rule 11's answer, and the bounded sheet: header, copies, edges
unfoldable pub examples : List (Case × List ℕ)
examples =
    -- * B = 4: refused 9
    (sheet_of (paper 4), 9 ∷ [])
    -- * B = 5 or 7: 6 copies, 7 edges
    ∷ (
      sheet_of (paper 5),
      0 ∷ 0 ∷ 6 ∷ 7 ∷ 5
          ∷ 1 ∷ 5 ∷ 1 ∷ 2 ∷ 0 ∷ 0 ∷ 3 ∷ 5 ∷ 2 ∷ 4 ∷ 3 ∷ 4 ∷ 6 ∷ 2 ∷ 5 ∷ 7 ∷ 1 ∷ 7
          ∷ 3 ∷ 0 ∷ 4 ∷ 3 ∷ 0 ∷ 0 ∷ 5 ∷ 0 ∷ 6 ∷ 6 ∷ 0 ∷ 0 ∷ 2 ∷ 0 ∷ [],
    )
    ∷ (
      sheet_of (paper 7),
      0 ∷ 0 ∷ 6 ∷ 7 ∷ 7
          ∷ 1 ∷ 5 ∷ 1 ∷ 2 ∷ 0 ∷ 0 ∷ 3 ∷ 5 ∷ 2 ∷ 4 ∷ 3 ∷ 4 ∷ 6 ∷ 2 ∷ 5 ∷ 7 ∷ 1 ∷ 7
          ∷ 3 ∷ 0 ∷ 4 ∷ 3 ∷ 0 ∷ 0 ∷ 5 ∷ 0 ∷ 6 ∷ 6 ∷ 0 ∷ 0 ∷ 2 ∷ 0 ∷ [],
    )
    -- * B = 8: 7 copies, 8 edges
    ∷ (
      sheet_of (paper 8),
      0 ∷ 0 ∷ 7 ∷ 8 ∷ 8
          ∷ 1 ∷ 8 ∷ 1 ∷ 2 ∷ 0 ∷ 0 ∷ 3 ∷ 8 ∷ 2 ∷ 4 ∷ 3 ∷ 4 ∷ 5 ∷ 6 ∷ 5 ∷ 6 ∷ 2 ∷ 6 ∷ 7 ∷ 1 ∷ 8
          ∷ 3 ∷ 0 ∷ 4 ∷ 3 ∷ 5 ∷ 0 ∷ 6 ∷ 0 ∷ 6 ∷ 0 ∷ 7 ∷ 7 ∷ 0 ∷ 0 ∷ 2 ∷ 0 ∷ [],
    )
    -- B = 9, printed whole as a listing: 9 copies, 11 edges
    ∷ (
      sheet_of (paper 9),
      0 ∷ 0 ∷ 9 ∷ 11 ∷ 9
          ∷ 1 ∷ 9 ∷ 1 ∷ 2 ∷ 0 ∷ 0 ∷ 3 ∷ 9 ∷ 2 ∷ 4 ∷ 7 ∷ 4 ∷ 5 ∷ 6 ∷ 5 ∷ 6 ∷ 2 ∷ 6 ∷ 6 ∷ 6 ∷ 8 ∷ 7 ∷ 1 ∷ 10 ∷ 8 ∷ 5 ∷ 11
          ∷ 3 ∷ 0 ∷ 4 ∷ 3 ∷ 5 ∷ 0 ∷ 7 ∷ 0 ∷ 6 ∷ 0 ∷ 8 ∷ 7 ∷ 0 ∷ 0 ∷ 8 ∷ 9 ∷ 9 ∷ 0 ∷ 2 ∷ 0 ∷ 2 ∷ 0 ∷ [],
    )
    -- * B = 11: as at 9, with budget 11
    ∷ (
      sheet_of (paper 11),
      0 ∷ 0 ∷ 9 ∷ 11 ∷ 11
          ∷ 1 ∷ 9 ∷ 1 ∷ 2 ∷ 0 ∷ 0 ∷ 3 ∷ 9 ∷ 2 ∷ 4 ∷ 7 ∷ 4 ∷ 5 ∷ 6 ∷ 5 ∷ 6 ∷ 2 ∷ 6 ∷ 6 ∷ 6 ∷ 8 ∷ 7 ∷ 1 ∷ 10 ∷ 8 ∷ 5 ∷ 11
          ∷ 3 ∷ 0 ∷ 4 ∷ 3 ∷ 5 ∷ 0 ∷ 7 ∷ 0 ∷ 6 ∷ 0 ∷ 8 ∷ 7 ∷ 0 ∷ 0 ∷ 8 ∷ 9 ∷ 9 ∷ 0 ∷ 2 ∷ 0 ∷ 2 ∷ 0 ∷ [],
    )
    -- * B = 12: 8 copies, 9 edges, no target 0
    ∷ (
      sheet_of (paper 12),
      0 ∷ 0 ∷ 8 ∷ 9 ∷ 12
          ∷ 1 ∷ 12 ∷ 1 ∷ 2 ∷ 0 ∷ 0 ∷ 3 ∷ 12 ∷ 2 ∷ 4 ∷ 7 ∷ 4 ∷ 5 ∷ 10 ∷ 5 ∷ 6 ∷ 6 ∷ 6 ∷ 7 ∷ 1 ∷ 8 ∷ 8 ∷ 5 ∷ 9
          ∷ 3 ∷ 0 ∷ 4 ∷ 3 ∷ 5 ∷ 0 ∷ 6 ∷ 0 ∷ 6 ∷ 0 ∷ 7 ∷ 7 ∷ 8 ∷ 0 ∷ 2 ∷ 0 ∷ 2 ∷ 0 ∷ [],
    )
    -- * Words 2 1 0, 0 1, 0 0, 2 0: built as 2 1 0, 1 0 1, 2 0 0, 2 0
    ∷ (
      sheet_of least,
      0 ∷ 0 ∷ 2 ∷ 1 ∷ 0
          ∷ 1 ∷ 0 ∷ 1 ∷ 2 ∷ 0 ∷ 0
          ∷ 2 ∷ 0 ∷ [],
    )
    -- * Block 3, cost 3, successors 3 and 2, start to 3, B = 7: copies (1, 6), (2, 0), (3, 3), (3, 6), 5 edges
    ∷ (
      sheet_of (loop 7),
      0 ∷ 0 ∷ 4 ∷ 5 ∷ 7
          ∷ 1 ∷ 6 ∷ 1 ∷ 2 ∷ 0 ∷ 0 ∷ 3 ∷ 3 ∷ 2 ∷ 3 ∷ 6 ∷ 4
          ∷ 4 ∷ 0 ∷ 0 ∷ 3 ∷ 2 ∷ 0 ∷ 3 ∷ 5 ∷ 2 ∷ 0 ∷ [],
    )
    -- * At B = 9: 5 copies
    ∷ (
      sheet_of (loop 9),
      0 ∷ 0 ∷ 5 ∷ 7 ∷ 9
          ∷ 1 ∷ 9 ∷ 1 ∷ 2 ∷ 0 ∷ 0 ∷ 3 ∷ 3 ∷ 2 ∷ 3 ∷ 6 ∷ 4 ∷ 3 ∷ 9 ∷ 6
          ∷ 5 ∷ 0 ∷ 0 ∷ 3 ∷ 2 ∷ 0 ∷ 3 ∷ 5 ∷ 2 ∷ 0 ∷ 4 ∷ 7 ∷ 2 ∷ 0 ∷ [],
    )
    -- * Block 3, cost 1, twice to 2, B = 1: targets 2 2
    ∷ (
      sheet_of twice,
      0 ∷ 0 ∷ 3 ∷ 3 ∷ 1
          ∷ 1 ∷ 1 ∷ 1 ∷ 2 ∷ 0 ∷ 0 ∷ 3 ∷ 1 ∷ 2
          ∷ 3 ∷ 0 ∷ 2 ∷ 3 ∷ 2 ∷ 0 ∷ [],
    )
    -- the listing with B = 9, byte for byte
    ∷ (
      listing_for (in_bytes (paper 9)),
      lines ("copies 9 edges 11 budget 9" ∷ "1 1 9 3" ∷ "2 2 0" ∷ "3 3 9 4 5" ∷ "4 4 7 7" ∷ "5 5 6 6" ∷ "6 6 2 8 0" ∷ "7 6 6 8 9" ∷ "8 7 1 2" ∷ "9 8 5 2" ∷ []),
    )
    -- `refused` and the number
    ∷ (listing_for (in_bytes (paper 4)), lines ("refused 9" ∷ []))
    ∷ []
