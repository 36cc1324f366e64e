-- the heading's length: heading-length
pub mod Heading
