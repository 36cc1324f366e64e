-- Laws that the bounded start cites.
-- Rests on base, theory, formats, calls.
-- what the call answers where the sheet is refused, where the budget's number is, and where the walk sets out or is stopped
pub mod Answers
