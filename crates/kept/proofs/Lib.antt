-- The laws of what is kept.
-- Rests on formats File, specs Held.
-- one byte more: held_start, full, kept_more, odd-more, held_none, held_next, held_all
pub mod More
-- pieces, one after the other: pieces-held
pub mod Pieces
-- what a row holds says what the whole input says: kept_whole
pub mod Whole
