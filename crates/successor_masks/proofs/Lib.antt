-- The laws of the masks of the successors.
-- Rests on base, theory, graph_row, masks.
-- a flat row's graph: joined, item-left
pub mod Flat
-- the masks of the successors: Listed, listed-none, listed_next, listed-all, nexts-none
pub mod Successors
