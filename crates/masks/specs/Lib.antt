-- What the contracts of the masks cite.
-- Rests on nothing.
-- which blocks are in a mask: in_mask, Empty, Put, Meets
pub mod Masks
