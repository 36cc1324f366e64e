-- What crosses the exported boundary in another form than the calls have it.
-- Rests on base Checks, theory Machines, calls Moves, Starts and Demand, walk WalkWords.
-- the starts and moves on four words, and demand 3 for them: guarded_outset, bounded_outset, guarded_step, bounded_step, on_words
pub mod Steps
