-- What the contracts cite.
-- Rests on nothing.
-- a row with words put into it
pub mod Put
