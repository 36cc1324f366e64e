-- lines, part by part: three-then, total-is, none_is, most-is; whole-line
pub mod Lines
-- how long three numbers are: three-most, last-room
pub mod Room
