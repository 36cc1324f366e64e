-- The entry of the first version is 1.
use Rattle.std.proofs.Common.{sym, ◌∙◌}
use Rattle.headers.proofs.Both.{first-entries}
use Rattle.bounded_check.proofs.all_entries.Goals as goal

pub returns : goal.returns
returns c = sym (first-entries _ (sym c.is_second.ensures ∙ c.if-is_second.false))
