-- Laws of a walk's end and shape, which the moves cite too.
-- Rests on base, theory, calls.
-- the test of an end: ended_is, going-is; what a walk in shape has: shape_of
pub mod Shape
-- the reply of any machine, case by case: ended, unchosen, takes; its number: reply-late
pub mod Replies
-- four words: read: its-walk; reading and writing are inverse: walk-back, words_back, end-words
pub mod Words
