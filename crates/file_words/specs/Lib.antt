-- How much of a file a program has to read.
-- Rests on formats.
pub mod Longer
