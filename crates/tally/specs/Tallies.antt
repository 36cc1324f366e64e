-- What a tally stands for: how many sheets of a report were seen, their sums and the greatest fraction so far; and how large its numbers are.
-- Rests on formats Limits and Report.
use Rattle.std.specs.Prelude.{◌≡◌, [], ℕ, suc, ◌*◌, ◌≤◌, Option, Some, None}
use Rattle.formats.specs.Limits.{most_blocks, most_copies, most_bounded_edges}
use Rattle.formats.specs.Report.{Figures, Sums, plus, Most, no_most, most_of}
use Rattle.tally.specs.declared.Most.{Most as Greatest}
use Rattle.tally.specs.declared.Tally.{Tally}

abbrev pub sums_of : Tally → Sums
sums_of t = record { blocks = t.blocks; copies = t.copies; edges = t.edges }

abbrev pub most_from : Option Greatest → Most
most_from None = no_most
most_from (Some m) = record { place = suc m.before; copies = m.copies; blocks = m.blocks }

-- the figures that a tally goes by
abbrev pub figured : ℕ → ℕ → ℕ → Figures
figured n c f = record { answer = 0; blocks = n; copies = c; edges = f; margins = []; unused = [] }

-- no number is larger than so many sheets can make it
pub record Fits (t : Tally) : Type 0 where
  pub blocks : t.blocks ≤ most_blocks * t.place
  pub copies : t.copies ≤ most_copies * t.place
  pub edges : t.edges ≤ most_bounded_edges * t.place
  pub most-place : (most_from t.most).place ≤ t.place
  pub most-copies : (most_from t.most).copies ≤ most_copies
  pub most-blocks : (most_from t.most).blocks ≤ most_blocks

-- one sheet more, with the figures f
pub record Tallied (f : Figures) (t t' : Tally) : Type 0 where
  pub place : t'.place ≡ suc t.place
  pub sums : sums_of t' ≡ plus (sums_of t) f
  pub most : most_from t'.most ≡ most_of (most_from t.most) (suc t.place) f
