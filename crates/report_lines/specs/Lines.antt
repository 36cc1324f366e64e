-- The room that a report's closing lines take, and three numbers in a line.
-- Rests on digits Spaced.
use Rattle.std.specs.Prelude.{List, [], ◌∷◌, ◌++◌, ℕ}
use Rattle.digits.specs.Spaced.{spaced}

-- numbers of at most 7 digits: those of 200 sheets together are smaller
abbrev pub number_limit : ℕ
number_limit = 10000000

-- a line with four such numbers, or with a word of at most 8 letters and three, and its newline
abbrev pub line_room : ℕ
line_room = 33

-- three numbers in a line
unfoldable pub three_text : ℕ → ℕ → ℕ → List ℕ
three_text x y z = spaced x ++ (spaced y ++ spaced z)

-- the end of a closing line: three numbers and the newline
unfoldable pub last_three : ℕ → ℕ → ℕ → List ℕ
last_three x y z = three_text x y z ++ (10 ∷ [])
