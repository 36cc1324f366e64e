-- what a fault's number stands for: what-other, what-large, what-many, what-nothing
pub mod Faults
-- the line that tells a fault, part by part, and its room: named-room, other-below, text-large, what-length
pub mod Said
-- the line of a fault by names, as it is printed: printed-decimal, line-said
pub mod Told
