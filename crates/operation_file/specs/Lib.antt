-- as much of a file as is read, and the room for what is written
pub mod Longer
-- what the operations program writes
pub mod Program
-- rows that pin it
pub mod Refusals
