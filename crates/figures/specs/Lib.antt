-- what a report says of a sheet, from its first bytes: Reports
pub mod Reports
