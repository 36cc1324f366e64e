-- The parts of a listing's heading.
-- Rests on base, digits.
-- the heading by its numbers: heading_text
pub mod Heading
