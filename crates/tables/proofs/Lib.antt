-- The rows of a build.
-- Rests on theory, calls.
-- an area that stands for the completion costs is looked up as the graph: low-in, next-in, lows-of
pub mod Tables
-- the edges of copies: edges_are
pub mod Rows
-- the candidates by their cells: candidate-here, none-past, code-cell, cell-block, clear-more, clear-eight
pub mod Places
-- the marked copies from a cell on, and a loop over them: rest, scan-of, cell-fits, at_first, at_next, at-end
pub mod Rest
-- the marked cells of a row, one after the other, and their copies: set-none, set-first, set-taken, copies-set
pub mod SetCells
