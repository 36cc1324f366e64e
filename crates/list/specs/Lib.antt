-- the listing of a file, from its first bytes: listing_from
pub mod Whole
