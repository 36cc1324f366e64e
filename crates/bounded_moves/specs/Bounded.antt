-- The bounded graph of a bounded sheet's records.
-- Rests on theory Walks, formats BoundedSheet.
use Rattle.std.specs.Prelude.{List, ℕ}
use Rattle.theory.specs.Walks.{Bounded}
use Rattle.formats.specs.BoundedSheet.{Heading, block_at, targets_at}

-- behind any header, with the exit's place, as calls SheetGraph read_bounded has it behind the sheet's own
abbrev pub bounded_at : Heading → ℕ → List ℕ → Bounded
bounded_at h x s = record { size = h.copies; block = block_at h s; next = targets_at h s; last = x }
