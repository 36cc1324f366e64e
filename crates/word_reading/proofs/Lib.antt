-- one byte more, in the numbers and the row: faults, moves, lines, ends, able-fault, able-with
pub mod Turns
