-- the cycles of an operation, the operation sheet, its conditions, the graph sheet that it says, and the call
pub mod Operations
-- rows that pin them
pub mod Refusals
