-- what a tally stands for, and how large its numbers are
pub mod Tallies
