-- The three clauses on the entries, one after the other.
use Rattle.std.proofs.Common.{refl}
use Rattle.entry_check.proofs.Parts.{entries-bad, last-bad, starts-left}
use Rattle.entry_check.proofs.Places.{last-zero, last_some}
use Rattle.entry_check.proofs.bad_entry_words.Goals as goal

pub returns-then-any_misfit : goal.returns-then-any_misfit
returns-then-any_misfit c = entries-bad _ _ _ _ c.requires.entries.0 c.any_misfit.ensures c.if-any_misfit.true

pub returns-then-entries-eq0 : goal.returns-then-entries-eq0
returns-then-entries-eq0 c =
    last-bad _ _ _ _ c.requires.entries.0 c.any_misfit.ensures c.if-any_misfit.false (last-zero _ refl c.if-entries-eq0.true)

pub returns : goal.returns
returns c =
    starts-left _ _ _ _ c.requires.entries.0 c.any_misfit.ensures c.if-any_misfit.false _ (last_some _ refl c.if-entries-eq0.false)
    c.requires.starts.0 c.has_unnamed.ensures
