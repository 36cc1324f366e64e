-- What a call of `read` answered: a number of bytes, 0 at the end of the input, or a failed read; and what `write_all` answered.
use Rattle.std.specs.Prelude.{ℕ, Result, Ok, Err}
use Rattle.std.specs.declared.io.Error.{Error}
use Rattle.input.specs.declared.Failure.{Failure}
use Rattle.input.specs.declared.Failure.TheVariants.{Input, Output}

-- of a read
abbrev pub piece_of : Result ℕ Error → Result ℕ Failure
piece_of (Ok n) = Ok n
piece_of (Err e) = Err (Input e)

-- of a write
abbrev pub wrote_of : Result (Unit {0}) Error → Result (Unit {0}) Failure
wrote_of (Ok u) = Ok u
wrote_of (Err e) = Err (Output e)
