-- Operations that are in the table.
-- Rests on formats Limits.
use Rattle.std.specs.Prelude.{ℕ, List, ◌≤◌}
use mathlib.Core.List.{Memᴰ}
use Rattle.formats.specs.Limits.{most_operation}

pub record Small (operations : List ℕ) : Type 0 where
  pub fits : (k : ℕ) → Memᴰ k operations → k ≤ most_operation
