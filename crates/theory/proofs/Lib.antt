-- the test of a completion cost is exactly the completions, the look-up gives the largest, the key lemma:
-- completes-sound, completes-complete, low-some, low-none, same_low
pub mod Completions
-- the monitor is document 01's watch, sentence by sentence: monitor-acts
pub mod Monitor
-- machines that keep a relation answer alike: agree-all, runs_as
pub mod Runs
-- the monitor and the walk over copies: follows-all
pub mod Simulation
-- a walk over copies ends within one move more than its budget and is never stuck: timely-all, early, never_stuck
pub mod Counts
-- the monitor counts the cycles of the blocks that it enters: monitor-cycles
pub mod Cycles
-- a path runs unchanged exactly where it costs at most the low of its first copy: runs, only
pub mod Paths
-- the copies are exactly those that are reached from the start copies: reached-in, in-reached
pub mod Reach
-- the candidates and the copies rise by block, then low: candidates-rise, copies-rise
pub mod Order
-- a bounded graph that lays the copies out keeps the promises from every entry: agrees, paths-kept
pub mod Agreement
-- no walk from an entry gets out of shape: monitor-kept, held-shape
pub mod Shape
-- a completion cost by the costs of the successors: at_exit, too-dear, by_next
pub mod Step
-- a block has a copy exactly where a kept path enters it: used
pub mod Used
-- a walk that is diverted before it sets out, where nothing fits its budget: stopped-agrees, stopped-paths
pub mod Stopped
-- the smallest completion cost above a number: next-some, next-none, is-next, no-next, exit-next
pub mod Next
-- a margin says what it should, and nothing else would: margins-say, margins-count, one-margin, exit-margin
pub mod Margins
