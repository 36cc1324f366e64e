-- One pass over the copies: each is tested behind the one before it, and its chain is followed.
use Rattle.bounded_records.specs.Records.{heading_in}
use Rattle.record_check.proofs.Records.{Checking}
use Rattle.record_check.proofs.has_bad_record.Given as goal

abbrev pub invariant-loop-copy : goal.invariant-loop-copy
invariant-loop-copy l = Checking (heading_in l.records) l.records.words.now l.starts l.copy l.previous l.due
