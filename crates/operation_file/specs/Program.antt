-- THE OPERATIONS PROGRAM: from the bytes of a file to the bytes of its output, a graph sheet or `refused` and a number (document 02, K4).
-- Rests on base Checks, formats File and Listing, operation_sheet Operations.
use Rattle.std.specs.Prelude.{Bool, true, false, List, ℕ, zero, suc}
use Rattle.base.specs.Checks.{refused}
use Rattle.formats.specs.File.{words_of, bytes_of, odd_bytes}
use Rattle.formats.specs.Listing.{refusal_of}
use Rattle.operation_sheet.specs.Operations.{operation_order, converted_sheet}

-- of an operation sheet: the converter's numbers without 22, for the program's own row is never too short
unfoldable pub sheet_converted : List ℕ → List ℕ
sheet_converted w = elim (refused operation_order w) [ zero ↦ bytes_of (converted_sheet w) | suc n ↦ refusal_of (suc n) ]

-- of a file's first bytes, and whether it has an odd number of them, which is 1 whatever the length
unfoldable pub converted_from : List ℕ → Bool → List ℕ
converted_from bs odd = elim odd [ true ↦ refusal_of 1 | false ↦ sheet_converted (words_of bs) ]

-- of a file
unfoldable pub converted : List ℕ → List ℕ
converted bs = converted_from bs (odd_bytes bs)
