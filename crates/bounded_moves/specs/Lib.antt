-- What the contracts below the public call cite; the public call cites calls Moves.
-- Rests on theory, formats.
-- the bounded graph behind any header: bounded_at
pub mod Bounded
