-- The room that a sheet's line takes: its place, N, C and F, and a margin for each copy.
-- Rests on formats Limits, report_lines Lines.
use Rattle.std.specs.Prelude.{ℕ, ◌+◌, ◌*◌}
use Rattle.formats.specs.Limits.{most_copies}
use Rattle.report_lines.specs.Lines.{line_room}

-- a margin is ` none`, or a space and at most 3 digits
abbrev pub sheet_room : ℕ
sheet_room = line_room + 5 * most_copies
