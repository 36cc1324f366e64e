-- the words, one more at a time: filled_none, filled_more, filled-all; at the front of a row: words-first
pub mod Filled
-- a file longer than any row that 3 lets pass is answered by its first words: first-words, graph-longer
pub mod LongFile
-- two bytes at a time: words_more, words_append
pub mod Pairs
