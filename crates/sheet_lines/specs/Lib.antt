-- the room that a sheet's line takes: sheet_room
pub mod Room
-- the front of a sheet's line: front_text
pub mod Line
