-- What the contracts cite beside formats BoundedSheet.
-- the header of a view of records: heading_in
pub mod Records
