-- The clauses behind the header, part by part.
use Rattle.std.proofs.Common.{sym, ◌∙◌}
use Rattle.bounded_check.proofs.Rule.{records-bad, exits-bad, entries-left}
use Rattle.bounded_check.proofs.Starts.{starts-are, start-copies}
use Rattle.bounded_check.proofs.Header.{parts-say}
use Rattle.bounded_check.proofs.bad_behind.Goals as goal

pub returns-then-has_bad_record : goal.returns-then-has_bad_record
returns-then-has_bad_record c = records-bad _ _ c.count_starts-starts.ensures c.has_bad_record.ensures c.if-has_bad_record.true

pub bad_exits-requires-clause-starts : goal.bad_exits-requires-clause-starts
bad_exits-requires-clause-starts c =
    let L = c.count_starts-starts.ensures in
    (starts-are _ _ _ L (sym c.has_bad_record.ensures ∙ c.if-has_bad_record.false), L.most)

pub returns-then-bad_exits : goal.returns-then-bad_exits
returns-then-bad_exits c =
    exits-bad _ _ c.count_starts-starts.ensures c.has_bad_record.ensures c.if-has_bad_record.false c.bad_exits.ensures c.if-bad_exits.true

pub bad_entry_words-requires-clause-starts : goal.bad_entry_words-requires-clause-starts
bad_entry_words-requires-clause-starts c =
    let L = c.count_starts-starts.ensures in
    (start-copies _ _ _ L (sym c.has_bad_record.ensures ∙ c.if-has_bad_record.false), L.most)

pub returns : goal.returns
returns c =
    let P = c.requires.listed in
    entries-left _ _ c.count_starts-starts.ensures c.has_bad_record.ensures c.if-has_bad_record.false c.bad_exits.ensures c.if-bad_exits.false
    (parts-say _ _ P.budgets P.entries c.bad_entry_words.ensures)
