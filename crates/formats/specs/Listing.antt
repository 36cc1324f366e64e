-- The text of a listing, in bytes (document 01, "Ribbon example and edges"): lines of words parted by single spaces, each ended by a newline.
-- Rests on base Lists, Versions, BoundedSheet.
use Rattle.std.specs.Prelude.{true, false, List, [], ◌∷◌, ◌++◌, map, ℕ, zero, suc, ◌+◌, ◌/◌, ◌%◌, ltb}
use Rattle.base.specs.Lists.{each, from}
use Rattle.formats.specs.Versions.{budgets_in}
use Rattle.formats.specs.BoundedSheet.{heading, block_at, low_at, targets_at}

-- a number in decimal digits, at most k of them
unfoldable pub digits : ℕ → ℕ → List ℕ
digits zero n = []
digits (suc k) n = elim (ltb n 10) [ true ↦ (48 + n) ∷ [] | false ↦ digits k (n / 10) ++ ((48 + n % 10) ∷ []) ]

-- a number has no more digits than it counts
unfoldable pub decimal : ℕ → List ℕ
decimal n = digits (suc n) n

abbrev space : ℕ
space = 32

abbrev newline : ℕ
newline = 10

-- words in a line
unfoldable pub line : List (List ℕ) → List ℕ
line [] = newline ∷ []
line (x ∷ []) = x ++ (newline ∷ [])
line (x ∷ y ∷ ys) = x ++ (space ∷ line (y ∷ ys))

-- `copies`, `edges`, `budget`, `refused`
abbrev copies_text : List ℕ
copies_text = 99 ∷ 111 ∷ 112 ∷ 105 ∷ 101 ∷ 115 ∷ []

abbrev edges_text : List ℕ
edges_text = 101 ∷ 100 ∷ 103 ∷ 101 ∷ 115 ∷ []

abbrev budget_text : List ℕ
budget_text = 98 ∷ 117 ∷ 100 ∷ 103 ∷ 101 ∷ 116 ∷ []

abbrev pub refused_text : List ℕ
refused_text = 114 ∷ 101 ∷ 102 ∷ 117 ∷ 115 ∷ 101 ∷ 100 ∷ []

-- "one heading line with C, F and B"; "The listing's heading gives all budgets after `budget`"
unfoldable pub heading_line : List ℕ → List ℕ
heading_line s =
    line (copies_text ∷ decimal (heading s).copies ∷ edges_text ∷ decimal (heading s).edges ∷ budget_text ∷ map decimal (budgets_in s))

-- "for each copy its number, block, low and targets in chain order"
unfoldable pub copy_line : List ℕ → ℕ → List ℕ
copy_line s i =
    line (decimal i ∷ decimal (block_at (heading s) s i) ∷ decimal (low_at (heading s) s i) ∷ map decimal (targets_at (heading s) s i))

unfoldable pub listing_of : List ℕ → List ℕ
listing_of s = heading_line s ++ each (copy_line s) (from 1 (heading s).copies)

-- "or `refused` and the number"
unfoldable pub refusal_of : ℕ → List ℕ
refusal_of n = line (refused_text ∷ decimal n ∷ [])
