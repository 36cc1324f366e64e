-- What the theory and the formats share: lists, copies as pairs, cells, orders of refusals, refusals by name, options as the theory has them.
pub mod Lists
pub mod Copy
pub mod Cells
pub mod Checks
pub mod Refusals
pub mod Options
