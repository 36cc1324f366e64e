-- What is wrong with the copies and their chains.
-- Rests on base, formats.
-- the clauses on the copies and the edges: is_stray, bad_edges, bad_records
pub mod Records
-- chains whose edges are consecutive numbers, and none of which strays: in_turn, Consecutive
pub mod Chains
