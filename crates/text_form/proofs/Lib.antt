-- the reading of one byte, case by case, and the end of a text: digit-more, line-hash, text-newline, with_none, worded-words
pub mod Cases
-- a text in two parts, and what is written at its end: read-append, encoded-bytes, encoded-told
pub mod Encoded
-- words as bytes, read back: words-of-bytes
pub mod Files
-- no text has more words than the most: words-few
pub mod Few
-- a text that was written reads back: round_trip, round-encoded
pub mod RoundTrip
-- sample texts and faults, by computing: read_as, said-as, limits-as, counted-as
pub mod Samples
