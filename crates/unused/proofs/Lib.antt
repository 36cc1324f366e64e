-- a mark behind a write: marked-same, marked_other
pub mod Writes
-- the loop over the blocks: written, Filling
pub mod Filling
-- the loop over the copies: Unmarking
pub mod Unmarking
-- the marked blocks are the unused ones, or none: names-unused, names-none; the copies' blocks: blocks-kept, blocks-read
pub mod Named
