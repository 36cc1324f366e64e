-- the operations of a block, and their cycles, one after the other: Summing
pub mod Sums
-- the words of the blocks, two by two: Placing
pub mod Blocks
-- the graph sheet in its parts, and the call's answers: graph-put
pub mod Graph
