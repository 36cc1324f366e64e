-- A file's bytes as words, and words as a file's bytes (document 01, "Graph sheet": "In a file each word is two bytes, lower byte first").
-- Rests on base Lists.
use Rattle.std.specs.Prelude.{Bool, List, [], ◌∷◌, map, ℕ, ◌+◌, ◌*◌, ◌/◌, ◌%◌, eqb, length, get_or}
use Rattle.base.specs.Lists.{each, from}

-- the i-th word, counted from 0
unfoldable pub word_of : List ℕ → ℕ → ℕ
word_of bs i = get_or bs (2 * i) 0 + 256 * get_or bs (2 * i + 1) 0

unfoldable pub words_of : List ℕ → List ℕ
words_of bs = map (word_of bs) (from 0 (length bs / 2))

-- words as bytes
abbrev pub word_bytes : ℕ → List ℕ
word_bytes w = w % 256 ∷ w / 256 ∷ []

unfoldable pub bytes_of : List ℕ → List ℕ
bytes_of ws = each word_bytes ws

-- "an odd number of bytes in a file", which is 1 whatever the length
unfoldable pub odd_bytes : List ℕ → Bool
odd_bytes bs = eqb (length bs % 2) 1
