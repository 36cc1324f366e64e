-- A row with some words put into it from a place on; all else stays.
-- Rests on nothing.
use Rattle.std.specs.Prelude.{List, ◌++◌, ℕ, ◌+◌, length, take, drop}

unfoldable pub put_words : List ℕ → ℕ → List ℕ → List ℕ
put_words row at ws = take at row ++ ws ++ drop (at + length ws) row
