-- The laws of the numbers of the marked copies.
-- Rests on base, theory, tables.
-- the numbers, copy by copy: numbering_start, numbering-room, numbering-on, numbering-end
pub mod Numbering
-- what is looked up is the number of the copy that serves the cycles left: number_is, and the ways to it
pub mod Looking
