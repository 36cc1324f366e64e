-- Laws that the guarded start's functions cite.
-- Rests on base, theory, formats, calls, cells, tables, weigh_sheet, guarded_moves.
-- the look-up of block 1: start_cell, start-low; what the call answers where the sheet or the budget is refused, and where the walk sets out or is
-- stopped: weigh-refused, number-refused, goes, stops
pub mod Answers
