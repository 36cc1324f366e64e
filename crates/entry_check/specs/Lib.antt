-- What is wrong with the entries.
-- Rests on formats.
-- the clauses on the entries: bad_entry_words
pub mod Entries
