-- THE LISTING PROGRAM: from the bytes of a file to the bytes of its output (document 01, "Ribbon example and edges").
-- Rests on base Checks, formats File and Listing, SheetGraph, Weigh, Build.
use Rattle.std.specs.Prelude.{true, false, List, [], ◌∷◌, ◌++◌, ℕ, zero, suc}
use Rattle.base.specs.Checks.{Order, refused}
use Rattle.formats.specs.GraphSheet.{sheet_order}
use Rattle.formats.specs.File.{words_of, odd_bytes}
use Rattle.formats.specs.Listing.{listing_of, refusal_of}
use Rattle.calls.specs.SheetGraph.{task, bounded_sheet}
use Rattle.calls.specs.Weigh.{nothing_fits}
use Rattle.calls.specs.Build.{too_large}

-- the build's numbers without 21, 22 and 43: the program's own buffers are never too short, and "The listing .. take[s] h as 0"
unfoldable pub listing_order : Order (List ℕ)
listing_order = sheet_order ++ ((9, λ w. nothing_fits (task w 0)) ∷ (10, λ w. too_large (task w 0)) ∷ [])

-- of a graph sheet: its listing, "or `refused` and the number"
unfoldable pub sheet_listing : List ℕ → List ℕ
sheet_listing w = elim (refused listing_order w) [ zero ↦ listing_of (bounded_sheet w 0) | suc n ↦ refusal_of (suc n) ]

-- of a file: "an odd number of bytes in a file" is 1 whatever the length
unfoldable pub listing : List ℕ → List ℕ
listing bs = elim (odd_bytes bs) [ true ↦ refusal_of 1 | false ↦ sheet_listing (words_of bs) ]
