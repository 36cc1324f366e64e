-- What is wrong with a copy by itself, and behind the copy before it.
-- Rests on base Copy and Checks, formats Limits.
use Rattle.std.specs.Prelude.{Bool, ◌||◌, not, ℕ, ltb}
use Rattle.base.specs.Copy.{Copy, copy_of, before}
use Rattle.base.specs.Checks.{outside}
use Rattle.formats.specs.Limits.{most_blocks}
use Rattle.copy_check.specs.declared.CopyKey.{CopyKey}

abbrev pub copy_in : CopyKey → Copy
copy_in c = copy_of c.block c.low

unfoldable pub bad_copy : ℕ → Copy → Copy → Bool
bad_copy b c d = outside 1 most_blocks d.block || (ltb b d.low || not (before c d))
