-- A catalogue: a row of words with graph sheets in it, "each preceded by a word with its length in words" (document 02, K1).
-- Rests on Limits.
use Rattle.std.specs.Prelude.{true, false, List, [], ◌∷◌, ℕ, zero, suc, ltb, length, take, drop}
use Rattle.std.proofs.Math.Option.{Option, some, none}
use Rattle.formats.specs.Limits.{most_sheets}

-- the first k sheets, each by its words; none for "a length beyond the words left", which is the last
unfoldable pub sheets_up_to : ℕ → List ℕ → List (Option (List ℕ))
sheets_up_to zero ws = []
sheets_up_to (suc k) [] = []
sheets_up_to (suc k) (n ∷ ws) = elim (ltb (length ws) n) [ true ↦ none ∷ [] | false ↦ some (take n ws) ∷ sheets_up_to k (drop n ws) ]

-- "Words after 200 sheets .. are ignored."
unfoldable pub sheets : List ℕ → List (Option (List ℕ))
sheets ws = sheets_up_to most_sheets ws
