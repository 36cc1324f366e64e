-- the text of a margin, and how long it is: word_none, word_some, next-above, word-length, word_at
pub mod Words
-- the margins of all copies of a bounded sheet: words_are, records-kept, words-length
pub mod Sheet
-- and of a task's: margins-are
pub mod Task
