-- A number in decimal digits, behind a space.
-- Rests on formats Listing.
use Rattle.std.specs.Prelude.{List, ◌∷◌, ℕ}
use Rattle.formats.specs.Listing.{decimal}

unfoldable pub spaced : ℕ → List ℕ
spaced n = 32 ∷ decimal n
