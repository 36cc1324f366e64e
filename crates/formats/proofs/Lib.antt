-- chains: chain-length-is, follow-ends; chains that are sound together: record-inside, record-short
pub mod Chains
pub mod SoundChains
-- the budgets of a header, and what 4 and 41 leave of them: claimed, largest-most
pub mod Budgets
-- a bounded sheet's header reads back: header-reads
pub mod Headings
-- what conditions 1 to 8 give of an accepted graph sheet: blocks, edges, paid, target-inside, chain-ends, successors-counted
pub mod Accepted
-- budgets less a handler's cost, and the conditions with 43: smallest-least, lowered-exactly, lowered-claimed, handled-e, handled-zero
pub mod Handler
-- a written bounded sheet reads back: reads, part-reads, met
pub mod Reading
-- rule 11, clause by clause, is that a sheet is written from rows that fit: fits-rule; rule11; what it gives behind any header: clauses, chain-inside
pub mod RuleKept
pub mod RuleWords
pub mod RuleRead
-- on a sheet of the first version the rule is document 01's: one-start, targets-behind-one
pub mod FirstVersion
-- every word of such a sheet fits 16 bits: words-fit; two_bytes
pub mod WordsFit
-- the edge words handed out are those of the copy's chain: handed_out
pub mod Parts
-- words as a file's bytes: bytes-append, bytes-length
pub mod Files
-- the rows of refusals: pinned
pub mod Rows
-- the fold of a report's figures finds the greatest fraction, the earliest of equal ones: greatest, one_line
pub mod Greatest
