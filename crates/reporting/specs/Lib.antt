-- what `feed_piece` promises: Taken, Takes
pub mod Taken
-- what is written for it, and for the end: Printed, Prints, Closes, Finishes
pub mod Printed
-- what a failure leaves: Stood, Unwritten, Unread
pub mod Failed
