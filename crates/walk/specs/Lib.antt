-- What the code's walk stands for.
-- Rests on theory, calls.
pub mod Walks
-- a walk as four words: walk_in, walk_words
pub mod WalkWords
