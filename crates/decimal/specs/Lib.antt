-- a row of words as lines of decimal words: layout, sheet_text
pub mod Writing
