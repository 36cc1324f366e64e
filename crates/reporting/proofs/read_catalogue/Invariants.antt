-- The bytes that the reader gave came, and what was handed back for them was written.
use Rattle.std.proofs.Common.{List, ℕ}
use Rattle.std.specs.Io.KnownBytes.{Consumes}
use Rattle.framing.specs.Feeding.{Able}
use Rattle.reporting.specs.Printed.{Printed}
use Rattle.reporting.proofs.read_catalogue.Given as goal

abbrev pub invariant-loop : goal.invariant-loop
invariant-loop g l = record {
  able : Able l.progress l.row l.marks;
  came : (xs : List ℕ) × Printed xs (g.W.Write.contents l.initial.writer) (g.W.Write.contents l.writer) l.progress l.row l.marks
      × Consumes (g.R.Read.remaining l.initial.reader) (g.R.Read.remaining l.reader) xs;
}
