-- an entry and its budget, and the clauses on the entries, by what their parts say: no_copy, low-within, entries-bad
pub mod Parts
-- a search in a list by places: member-places; the last of a list: last-zero
pub mod Places
