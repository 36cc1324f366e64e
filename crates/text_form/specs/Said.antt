-- What the encode program writes: the bytes of a text's words on standard output, or one line that tells its fault on standard error.
-- Rests on base Checks, digits Spaced, formats File and Listing, Reading.
use Rattle.std.specs.Prelude.{true, false, List, [], ◌∷◌, ◌++◌, ℕ}
use Rattle.std.proofs.Math.Option.{some, none}
use Rattle.base.specs.Checks.{outside}
use Rattle.formats.specs.Listing.{decimal}
use Rattle.digits.specs.Spaced.{spaced}
use Rattle.text_form.specs.Reading.{What, other, large, many, nothing, Fault, read_words}
use Rattle.formats.specs.File.{bytes_of}

-- `line`, `, column`, `: `
abbrev pub line_name : List ℕ
line_name = 108 ∷ 105 ∷ 110 ∷ 101 ∷ []

abbrev pub column_name : List ℕ
column_name = 44 ∷ 32 ∷ 99 ∷ 111 ∷ 108 ∷ 117 ∷ 109 ∷ 110 ∷ []

abbrev pub colon_text : List ℕ
colon_text = 58 ∷ 32 ∷ []

-- `byte`, ` is not a digit`, ` is above 65535`
abbrev pub byte_name : List ℕ
byte_name = 98 ∷ 121 ∷ 116 ∷ 101 ∷ []

abbrev pub no_digit_text : List ℕ
no_digit_text = 32 ∷ 105 ∷ 115 ∷ 32 ∷ 110 ∷ 111 ∷ 116 ∷ 32 ∷ 97 ∷ 32 ∷ 100 ∷ 105 ∷ 103 ∷ 105 ∷ 116 ∷ []

abbrev pub above_text : List ℕ
above_text = 32 ∷ 105 ∷ 115 ∷ 32 ∷ 97 ∷ 98 ∷ 111 ∷ 118 ∷ 101 ∷ 32 ∷ 54 ∷ 53 ∷ 53 ∷ 51 ∷ 53 ∷ []

-- `more than 262144 words`, `no word`
abbrev pub many_text : List ℕ
many_text =
    109 ∷ 111 ∷ 114 ∷ 101 ∷ 32 ∷ 116 ∷ 104 ∷ 97 ∷ 110 ∷ 32 ∷ 50 ∷ 54 ∷ 50 ∷ 49 ∷ 52 ∷ 52 ∷ 32 ∷ 119 ∷ 111 ∷ 114 ∷ 100 ∷ 115 ∷ []

abbrev pub nothing_text : List ℕ
nothing_text = 110 ∷ 111 ∷ 32 ∷ 119 ∷ 111 ∷ 114 ∷ 100 ∷ []

-- `line 3, column 7: `
unfoldable pub place_text : ℕ → ℕ → List ℕ
place_text l c = (line_name ++ spaced l) ++ ((column_name ++ spaced c) ++ colon_text)

-- a byte that can be seen, 33 to 126, stands in quotes (39); any other is told by its number
abbrev pub unseen_text : ℕ → List ℕ
unseen_text b = (byte_name ++ spaced b) ++ no_digit_text

unfoldable pub other_text : ℕ → List ℕ
other_text b = elim (outside 33 126 b) [ true ↦ unseen_text b | false ↦ 39 ∷ b ∷ 39 ∷ no_digit_text ]

unfoldable pub what_text : What → List ℕ
what_text (other b) = other_text b
what_text (large n) = decimal n ++ above_text
what_text many = many_text
what_text nothing = nothing_text

-- a fault in one line, ended by a newline (10)
unfoldable pub said_text : Fault → List ℕ
said_text f = place_text f.line f.column ++ (what_text f.what ++ (10 ∷ []))

-- WHAT GOES TO STANDARD OUTPUT, and what to standard error: one of the two is empty
unfoldable pub encoded_bytes : List ℕ → List ℕ
encoded_bytes bs = elim (read_words bs).fault [ none ↦ bytes_of (read_words bs).words | some f ↦ [] ]

unfoldable pub encoded_said : List ℕ → List ℕ
encoded_said bs = elim (read_words bs).fault [ none ↦ [] | some f ↦ said_text f ]
