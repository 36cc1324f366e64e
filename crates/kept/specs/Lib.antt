-- What is kept of an input.
-- Rests on formats File.
-- what a count and a parity stand for: Held, none
pub mod Held
