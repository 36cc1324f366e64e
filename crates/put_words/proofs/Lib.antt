-- words put into a row: put-none, put-length, put-more, one, two, three, Putting
pub mod Put
