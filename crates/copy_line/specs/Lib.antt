-- The parts of a copy's line.
-- Rests on base, formats, digits.
-- the line by its numbers and by a sheet's records: copy_text, targets_text, line_at, Readable
pub mod Line
