-- The laws of one cost.
-- Rests on base, theory, calls, cells, masks.
-- the cells of an area that is ready: cell, ready_on
pub mod Cells
-- a cell set, the exit's alone: wrote-fair, begun-fair
pub mod Written
-- one block's cost: wrote, mirror-put, mirror-begun, met-completes, unmet
pub mod OneCost
