-- The place, and what stood there.
use Rattle.std.proofs.Common.{rules}
use Rattle.std.proofs.Output.{has_written_of_eq}
use Rattle.fault_line.proofs.Told.{place-told}
use Rattle.fault_line.proofs.kinds.TextFaultDisplay.fmt.Goals as goal

pub returns-clause-writes : goal.returns-clause-writes
returns-clause-writes g c = λ p ok. has_written_of_eq _ _ _ _ _ (place-told _ _ (search rules) (search rules) _) (c.write.ensures.writes p ok)
