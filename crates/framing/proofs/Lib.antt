-- nothing came, a line more, a sheet more: came-first, line-behind, sheet-more, closed
pub mod Steps
-- the next byte, by how far the catalogue came: silent, ignored, first_byte, second-byte, sheet-byte, empty-sheet, last_byte
pub mod Turns
