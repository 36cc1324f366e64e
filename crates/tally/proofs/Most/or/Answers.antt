-- By the test.
use Rattle.std.proofs.Common.{sym, ◌∙◌}
use Rattle.formats.specs.Report.{most_of}
use Rattle.tally.proofs.Most.or.Goals as goal

pub returns-then-is_above : goal.returns-then-is_above
unfolding most_of
returns-then-is_above c = rw (sym c.is_above.ensures ∙ c.if-is_above.true, most_of)

pub returns : goal.returns
unfolding most_of
returns c = rw (sym c.is_above.ensures ∙ c.if-is_above.false, most_of)
