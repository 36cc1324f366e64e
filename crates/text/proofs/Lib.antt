-- the listing by its lines, and a refusal: listing-is, refusal_is
pub mod Lines
-- what rule 11 gives, number by number: block-most, low-most, target-most, readable
pub mod Kept
-- the texts have room: listing-fits, refusal-fits
pub mod Room
