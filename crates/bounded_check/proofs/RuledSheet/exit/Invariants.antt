-- The copies before the exit are passed.
use Rattle.bounded_records.specs.Records.{heading_in}
use Rattle.bounded_check.proofs.ExitPlace.{Passes}
use Rattle.bounded_check.proofs.RuledSheet.exit.Given as goal

abbrev pub invariant-loop-copy : goal.invariant-loop-copy
invariant-loop-copy l = Passes (heading_in l.self.records) l.self.records.words.now l.copy
