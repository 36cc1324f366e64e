-- the edge order by its two loops, turn by turn
pub mod Edges
-- the pass over the copies, turn by turn
pub mod Records
