-- rows of marks: Marks, marked, marked_blocks, First, Unmarked; the blocks of copies: blocks_at, Blocks
pub mod Marks
