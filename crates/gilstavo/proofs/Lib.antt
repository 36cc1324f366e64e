-- The calls on four words, and demand 3 for them.
-- Rests on calls Forms, walk Words, specs Steps.
-- the words after a step: step-answer, step-refused, step-accepted
pub mod Steps
-- demand 3 on words: words-keep-demand3, words-keep-from-start
pub mod Demand
