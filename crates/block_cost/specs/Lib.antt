-- The masks that weighing keeps, and the states of the work area while it is filled.
-- Rests on theory, formats, calls, masks and successor_masks.
-- the work area: Ready, Fair, Wider, Settled
pub mod States
-- the masks beside it: Mirror, Kept
pub mod Masked
