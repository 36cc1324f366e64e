-- what is said of a sheet by the answer of its build: costs-left, says-accepted, says-refused
pub mod Answered
-- and of a whole sheet, from its first bytes: reports-cut, reports-whole
pub mod Whole
