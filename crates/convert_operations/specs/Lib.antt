-- What the contracts cite beside operation_sheet Operations.
-- Rests on formats Limits.
-- operations that are in the table: Small
pub mod Small
