-- what is written so far, then the rest, is the whole: wrote_then; due-start, due-room, due-step, due-end
pub mod Due
-- what is written of the words of a row, word by word: Items
pub mod Items
-- a part for each of the numbers 1 to n: parts-begin, parts-on, parts-end
pub mod Counted
-- decimal digits, and how many there are: decimal-one, decimal-more, digits_4
pub mod Decimals
-- how long a number behind a space is, and a list of parts: spaced-3, .., each-room
pub mod Room
-- a line of words, part by part: words-line, numbers-line
pub mod NumberLine
