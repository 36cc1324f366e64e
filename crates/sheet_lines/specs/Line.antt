-- The front of an accepted sheet's line: its place, N, C and F.
-- Rests on formats Listing, report_lines Lines.
use Rattle.std.specs.Prelude.{List, ◌++◌, ℕ}
use Rattle.formats.specs.Listing.{decimal}
use Rattle.report_lines.specs.Lines.{three_text}

unfoldable pub front_text : ℕ → ℕ → ℕ → ℕ → List ℕ
front_text p n c f = decimal p ++ three_text n c f
