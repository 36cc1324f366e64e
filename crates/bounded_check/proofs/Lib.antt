-- the start copies, counted by a loop: one_more; kept-order, records-lead, starts-are, start-copies
pub mod Starts
-- rule 11 in its parts: form-is, header-there, answer-read; records-bad, exits-bad, entries-left
pub mod Rule
-- the exit behind the start copies: starts-alone, other_block, exit-low, is-chain, no-chain, exit-chain, one-exit, second-tells
pub mod Exit
-- the budgets and the entries as parts of the sheet: listed, parts-say
pub mod Header
-- the exit's place: passes_none, finds, passes, last-left
pub mod ExitPlace
-- what a sheet that keeps rule 11 has: ruled, budget_is, header_is, number_in
pub mod Sheet
