-- Sample rows, by computing: what they are written as.
-- Rests on formats Samples, specs Writing.
use mathlib.Core.Path.{◌≡◌, refl}
use mathlib.Core.List.{List, [], ◌∷◌, map}
use Prim.Native.Nat.{ℕ}
use Rattle.base.specs.Lists.{each}
use Rattle.formats.specs.Versions.{is_second}
use Rattle.formats.specs.GraphSheet.{header}
use Rattle.formats.specs.BoundedSheet.{heading}
use Rattle.formats.specs.Listing.{digits, decimal, line}
use Rattle.formats.specs.Samples.{loop_saying, loop_with, three_seven, text, lines}
use Rattle.decimal.specs.Writing.{records, layout, lines_text, sheet_text}

unfoldable pub rows : List (List ℕ × List ℕ)
rows =
    -- the shortest graph sheet: `2 1 0`, `0 1`, `0 0`, `2 0`
    (
      2 ∷ 1 ∷ 0 ∷ 0 ∷ 1 ∷ 0 ∷ 0 ∷ 2 ∷ 0 ∷ [],
      50 ∷ 32 ∷ 49 ∷ 32 ∷ 48 ∷ 10 ∷ 48 ∷ 32 ∷ 49 ∷ 10 ∷ 48 ∷ 32 ∷ 48 ∷ 10 ∷ 50 ∷ 32 ∷ 48 ∷ 10 ∷ [],
    )
    -- the shortest bounded sheet: `2 1 0`, `1 0 1`, `2 0 0`, `2 0`
    ∷ (
      2 ∷ 1 ∷ 0 ∷ 1 ∷ 0 ∷ 1 ∷ 2 ∷ 0 ∷ 0 ∷ 2 ∷ 0 ∷ [],
      50 ∷ 32 ∷ 49 ∷ 32 ∷ 48 ∷ 10 ∷ 49 ∷ 32 ∷ 48 ∷ 32 ∷ 49 ∷ 10 ∷ 50 ∷ 32 ∷ 48 ∷ 32 ∷ 48 ∷ 10 ∷ 50 ∷ 32 ∷ 48 ∷ 10 ∷ [],
    )
    -- a graph sheet and a bounded sheet of the second version, with two budgets, and with two entries
    ∷ (loop_with (3 ∷ 7 ∷ []), lines ("0 3 3 2 3 7" ∷ "0 1" ∷ "0 0" ∷ "3 2" ∷ "3 0" ∷ "3 3" ∷ "2 0" ∷ []))
    ∷ (
      three_seven,
      lines ("0 5 6 2 3 7 1 2" ∷ "1 3 1" ∷ "1 6 2" ∷ "2 0 0" ∷ "3 3 3" ∷ "3 6 5" ∷ "4 0" ∷ "5 0" ∷ "0 4" ∷ "3 0" ∷ "4 6" ∷ "3 0" ∷ []),
    )
    -- any other row: `12`, `7`; nothing
    ∷ (12 ∷ 7 ∷ [], 49 ∷ 50 ∷ 10 ∷ 55 ∷ 10 ∷ [])
    ∷ ([], [])
    ∷ []

pub written_as : map (λ s. sheet_text s.0) rows ≡ map (λ s. s.1) rows
unfolding rows records layout lines_text sheet_text is_second header heading digits decimal line each loop_saying three_seven text lines
written_as = refl
