-- What the contracts cite beside formats.
-- Rests on formats BoundedSheet.
-- words that stand in a row: Placed
pub mod Placed
