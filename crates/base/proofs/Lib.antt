-- tests: and-i, and-e, or-e, any-i, any-e, all-e, ..
pub mod Truth
-- members, choices, numbers in a row, the room of a row of zeros
pub mod Lists
-- numbers that rise, the last and the k-th of a list: last-most, nth-in
pub mod Numbers
-- the order of copies, and their places in a rising list
pub mod Copies
-- orders of refusals: unrefused, passed, over-i, over-e; limits
pub mod Orders
-- different numbers from 1 to n are at most n
pub mod Pigeonhole
-- a search by a loop over 1 to n: begin, found, onward, none
pub mod Search
-- an option as a number: option-none, option-some; as the theory has it: option_in-get
pub mod Options
-- cells: cell-inside, cell-rises, count-rises, one-cell, cell-of
pub mod Cells
-- the numbers of refusals: numbered, one_number, is-refused
pub mod Refusals
-- any and all in std's words: any-std, all-std
pub mod Std
