-- what a read or a write answered: piece_of, wrote_of
pub mod Answers
-- which stream failed, and what that leaves: OfInput, OfOutput, OfErrors, OfInputOrOutput, WritesNothing, Front
pub mod Failed
