-- The listing of a file, from its first bytes and whether it has an odd number of them: for any file, its listing (proofs Files).
-- Rests on formats File and Listing, calls Program.
use Rattle.std.specs.Prelude.{Bool, true, false, List, ℕ}
use Rattle.formats.specs.File.{words_of}
use Rattle.formats.specs.Listing.{refusal_of}
use Rattle.calls.specs.Program.{sheet_listing}

-- bs is as much of a file as is read, odd whether the file has an odd number of bytes
unfoldable pub listing_from : List ℕ → Bool → List ℕ
listing_from bs odd = elim odd [ true ↦ refusal_of 1 | false ↦ sheet_listing (words_of bs) ]
