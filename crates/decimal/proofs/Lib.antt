-- lines of decimal words, and the loop over them: line-is, records_is, lines-begin, lines-on, lines_end
pub mod Lines
-- a property of every number of a list: AllOf, all_of, all_take, Words
pub mod All
-- the lines of a row of words: layout-graph, layout-bounded, layout-other, layout-total
pub mod Layouts
-- how long a sheet's text is at most: sheet-fits, sheet-ends
pub mod Rooms
-- sample rows, by computing: written_as
pub mod Samples
