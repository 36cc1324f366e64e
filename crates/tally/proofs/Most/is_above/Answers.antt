-- The test of the fractions.
use Rattle.std.proofs.Common.{refl}
use Rattle.formats.specs.Report.{greater}
use Rattle.tally.proofs.Steps.{above_none}
use Rattle.tally.proofs.Most.is_above.Goals as goal

pub returns-in-Some : goal.returns-in-Some
unfolding greater
returns-in-Some c = rw c.in-Some.is refl

pub returns-in-None : goal.returns-in-None
returns-in-None c = rw c.in-None.is (above_none c.args.self.blocks c.args.self.copies)
