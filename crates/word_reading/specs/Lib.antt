-- what the numbers of a reading hold: fault_of, Holds, Able, Turns
pub mod Held
