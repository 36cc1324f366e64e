-- The bytes that the reader gave were read.
use Rattle.std.proofs.Common.{List, ℕ}
use Rattle.std.specs.Io.KnownBytes.{Consumes}
use Rattle.text_form.specs.Reading.{start, read_on}
use Rattle.word_reading.specs.Held.{Able, Holds}
use Rattle.encode.proofs.read_text.Given as goal

abbrev pub invariant-loop : goal.invariant-loop
invariant-loop g l = record {
  able : Able l.s l.out;
  read : (xs : List ℕ) × Holds l.initial.out (read_on start xs) l.out l.s
      × Consumes (g.R.Read.remaining l.initial.reader) (g.R.Read.remaining l.reader) xs;
}
