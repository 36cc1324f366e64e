-- The room of unused blocks' lines.
-- Rests on formats.
-- unused_room
pub mod Room
