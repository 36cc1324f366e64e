-- What the contracts below the public calls cite.
-- Rests on base, tables.
-- a number as it is looked up
pub mod Numbers
