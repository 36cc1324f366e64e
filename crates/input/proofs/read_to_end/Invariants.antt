-- What came, the row holds as `s` says, and the reader gave.
use Rattle.std.proofs.Common.{◌≤◌, List, ℕ, length}
use Rattle.std.specs.Io.KnownBytes.{Consumes}
use Rattle.kept.specs.Held.{Held, held_as}
use Rattle.input.proofs.read_to_end.Given as goal

abbrev pub invariant-loop : goal.invariant-loop
invariant-loop g l = record {
  room : l.s.count ≤ length l.row;
  came : (xs : List ℕ) × Held xs l.row (held_as l.s) × Consumes (g.R.Read.remaining l.initial.reader) (g.R.Read.remaining l.reader) xs;
}
