-- faults by their numbers, and the room of the line that tells one: what_of, fault_by, said_size
pub mod Faults
-- a fault by names, and its line: what_of, fault_of, line_text
pub mod Kinds
