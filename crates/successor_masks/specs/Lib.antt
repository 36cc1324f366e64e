-- A graph whose edges join its blocks, and the masks of its successors.
-- Rests on theory, formats and masks.
-- the graph that is weighed: Joined
pub mod Joined
-- the masks of the successors: Nexts
pub mod Nexts
