-- the largest number that passes, number by number, and as a loop from above finds it: under-hit, under-miss; begin, hit, miss, out
pub mod Scan
-- a cell stored into a row: stored, others-kept
pub mod Stored
-- the rows, one number and one block after the other: row_on, row-end, rows_on, rows_end
pub mod Rows
