-- Laws that the guarded move's functions cite.
-- Rests on base, theory, formats, calls, graph_row, tables, weigh_sheet, walk.
-- the chosen successor, by its number: no-choice, choice-fits, choice-is, target-fits
pub mod Choices
-- the monitor's reply, case by case: ended, unchosen, count_fits, diverts, enters
pub mod Replies
-- what moves and starts have of a weighed sheet: passed, late, sheet-table, area-table; of a budget by its number: number_is, counted, listed, within
pub mod Weighed
-- what the call answers where the sheet is refused, where the budget or the walk is out of shape, and where the monitor replies
pub mod Answers
