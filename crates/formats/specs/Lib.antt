-- Graph sheets and bounded sheets as rows of words, files as bytes, listings as text; nothing of completions or walks.
-- every limit by its name
pub mod Limits
-- rows of words, chains of records
pub mod Words
-- the two versions of a sheet, the budgets in a header, and budgets that are lowered
pub mod Versions
-- the graph sheet, conditions 1 to 8, 41 and 43, the number of successors
pub mod GraphSheet
-- the bounded sheet, written and read
pub mod BoundedSheet
-- rule 11, and the edge words handed out
pub mod Rule11
-- a file's bytes as words, and words as bytes
pub mod File
-- a listing's text
pub mod Listing
-- a catalogue of graph sheets, and the text of its report
pub mod Catalogue
pub mod Report
-- sample sheets
pub mod Samples
-- rows that pin the conditions, rule 11, files and listings
pub mod Refusals
