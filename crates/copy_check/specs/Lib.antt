-- What is wrong with one copy.
-- Rests on base, formats.
-- a copy by itself, and behind the one before it: bad_copy
pub mod BadCopy
