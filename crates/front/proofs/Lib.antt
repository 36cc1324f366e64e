-- a build in rows that are long enough: list-answer, front-is, front_fits, front_kept
pub mod Answer
-- as much of a file as is read answers for the whole: front_same
pub mod Read
