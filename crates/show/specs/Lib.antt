-- What the decode program prints.
-- Rests on formats, decimal.
pub mod Shown
