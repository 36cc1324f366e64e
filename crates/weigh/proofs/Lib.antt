-- The laws of weighing.
-- Rests on base, theory, calls, graph_row, successor_masks, block_cost.
-- a flat row, for callers: ready
pub mod Flat
-- all costs, block by block: settled-none, settled-exit, settled_on, settled-next, ahead-block, ahead-start, all_right, Going
pub mod Rising
