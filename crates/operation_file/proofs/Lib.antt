-- an operation sheet by its answer, and a whole file by its first words: converted-kept
pub mod Files
-- every row comes out as it says: pinned
pub mod Rows
