-- bytes written into a row: Wrote
pub mod Wrote
-- a number behind a space: spaced
pub mod Spaced
