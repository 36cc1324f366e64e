-- Graphs with costs, their copies within budgets, and the machines that walk on them: for any graph and any budgets, with no words and no limits.
-- graphs, completions, the look-up of a completion cost
pub mod Completions
-- the copies that are reached from some start copies
pub mod Copies
-- what is built: a graph with budgets, and its copies
pub mod Tasks
-- machines that move by choices, and runs
pub mod Machines
-- the monitor, the walk over copies, the walk on a bounded graph, paths
pub mod Walks
-- what the theorems are about, and what they promise
pub mod Setting
-- the margin of a copy, and what it says
pub mod Margins
