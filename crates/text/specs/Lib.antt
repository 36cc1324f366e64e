-- The room of a listing's text, and its lines.
-- Rests on base, formats, copy_line.
-- the room of a listing and of a refusal; all copies' lines: listing_room, refusal_room, copy_lines
pub mod Texts
