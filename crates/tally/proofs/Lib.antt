-- the greatest is small, one sheet more: small-most, tallied, fits
pub mod Steps
