-- modes by their numbers, and what is written in each: mode-within, pending-bytes, value_none, comment-no, full-outside
pub mod Modes
