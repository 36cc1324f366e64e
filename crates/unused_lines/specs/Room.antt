-- The room that the lines of a sheet's unused blocks take.
-- Rests on formats Limits.
use Rattle.std.specs.Prelude.{ℕ, ◌*◌}
use Rattle.formats.specs.Limits.{most_blocks}

-- `unused` and two numbers, for each block
abbrev pub unused_room : ℕ
unused_room = 23 * most_blocks
