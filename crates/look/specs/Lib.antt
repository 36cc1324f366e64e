-- What the contracts below `fill_lows` cite.
-- Rests on base Lists and Cells, theory Completions, calls Area.
pub mod Rows
