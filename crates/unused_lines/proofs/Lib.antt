-- an unused block's line, part by part, and its room: unused-is, unused-length, unused-fits
pub mod Line
-- the marked blocks' lines: marked-begin, marked-on, marked-end
pub mod Marked
