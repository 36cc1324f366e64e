-- The laws of masks.
-- Rests on specs Masks.
-- the bits of a word: bit-and, bit-or, bit-own, bit-other, bit-none, bit-some
pub mod Bits
-- a block put into a mask, and a block in two: put_first, put_second, meets, zeros-empty
pub mod Masks
