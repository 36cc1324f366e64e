-- What each call answers and leaves: the join of the theory and the formats.
-- the graph of a sheet, its copies, its bounded sheet
pub mod SheetGraph
-- the work area's bytes
pub mod Area
-- 21 and 9, and what weighing leaves
pub mod Weigh
-- 10, 22, and what a build leaves
pub mod Build
-- 33, 32, 31, and what the moves leave
pub mod Moves
-- a walk that sets out with a chosen budget
pub mod Starts
-- what 9 and the work area say of a sheet's completions
pub mod Filled
-- the listing program's output
pub mod Program
-- the report program's output
pub mod Report
-- demand 2
pub mod Construction
-- demand 3
pub mod Demand
-- cases of every call, as rows of numbers
pub mod Cases
pub mod Examples
pub mod Refusals
