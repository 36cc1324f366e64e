-- An option as code has it, and as the theory has it.
-- Rests on nothing.
use Rattle.std.specs.Prelude.{ℕ, Some, None, Option as Choice}
use Rattle.std.proofs.Math.Option.{Option, some, none}

-- the same option in the theory's words
abbrev pub option_in : Choice ℕ → Option ℕ
option_in None = none
option_in (Some a) = some a
