-- The laws of what is shown.
-- Rests on formats, calls, kept, specs Shown.
-- what is shown by what is kept: shown-odd, shown-long, shown-words
pub mod Shown
-- by other notions: odd-as-listed, no-graph, no-bounded
pub mod Pinned
