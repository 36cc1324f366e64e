-- What stands in a report behind the sheets' lines, part by part: the totals, the greatest, the unused blocks of each sheet.
-- Rests on base Lists, formats Report.
use Rattle.std.specs.Prelude.{List, [], ℕ, zero, suc, ◌+◌, Option, Some, None}
use Rattle.std.proofs.Math.Option.{some, none}
use Rattle.base.specs.Lists.{chosen}
use Rattle.catalogue.specs.declared.Part.{Part}
use Rattle.catalogue.specs.declared.Part.TheVariants.{Totals, Greatest, Unused}
use Rattle.formats.specs.Report.{Figures, no_sums, sums, total_line, no_most, most, most_line, unused_lines}

-- the parts are counted from 0; those of the sheets begin with 2
unfoldable pub closing_part : List Figures → ℕ → List ℕ
closing_part fs zero = total_line (sums no_sums fs)
closing_part fs (suc zero) = most_line (most no_most 1 fs)
closing_part fs (suc (suc i)) = elim (chosen fs (suc i)) [ none ↦ [] | some f ↦ unused_lines (suc i) f ]

-- the number of a part
abbrev pub place_of : Part → ℕ
place_of Totals = 0
place_of Greatest = 1
place_of (Unused i) = suc (suc i)

-- how many parts stand before one, and before the end, in the report of n sheets
abbrev pub parts_before : ℕ → Option Part → ℕ
parts_before n None = n + 2
parts_before n (Some part) = place_of part
