-- A search for a start copy that no entry names.
use Rattle.std.proofs.Common.{not}
use Rattle.base.specs.Lists.{any, from, member}
use Rattle.base.proofs.Search.{Search}
use Rattle.entry_check.proofs.has_unnamed.Given as goal

abbrev pub invariant-loop-copy : goal.invariant-loop-copy
invariant-loop-copy l = Search (any (λ i. not (member i l.entries)) (from 1 l.starts)) (λ i. not (member i l.entries)) l.starts l.copy
