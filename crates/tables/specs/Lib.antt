-- What the rows of a build stand for, and the edges of copies.
-- Rests on base, theory, calls.
-- the rows that a build keeps: Lows, marked, Numbers
pub mod Tables
-- the cells of a row in order: IsCell, NextMarked, set_from, copy_at
pub mod Scan
-- what an iteration over the marked cells has left: rest
pub mod Rest
-- the edges of some copies: edges_of
pub mod Rows
