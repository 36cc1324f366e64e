-- Laws that the functions cite.
-- Rests on base, theory, formats, calls, bounded_check, walk.
-- the reply of the bounded walk, case by case: missing, diverts, enters
pub mod Replies
-- what the call answers where the sheet is refused, where the budget or the walk is out of shape, and where the bounded walk replies
pub mod Answers
