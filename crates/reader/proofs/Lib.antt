-- the answer and the words by the order of refusals: sheet-refused, copy-refused, handed
pub mod Answers
-- the place of a copy's edge records: no_edges, some_edges
pub mod Places
