-- The heading of a listing, by the numbers that it shows.
-- Rests on base Lists, digits Spaced.
use Rattle.std.specs.Prelude.{List, [], ◌∷◌, ◌++◌, ℕ}
use Rattle.base.specs.Lists.{each}
use Rattle.digits.specs.Spaced.{spaced}

-- `copies`, ` edges`, ` budget`
abbrev pub copies_text : List ℕ
copies_text = 99 ∷ 111 ∷ 112 ∷ 105 ∷ 101 ∷ 115 ∷ []

abbrev pub edges_text : List ℕ
edges_text = 32 ∷ 101 ∷ 100 ∷ 103 ∷ 101 ∷ 115 ∷ []

abbrev pub budget_text : List ℕ
budget_text = 32 ∷ 98 ∷ 117 ∷ 100 ∷ 103 ∷ 101 ∷ 116 ∷ []

-- the heading: C and F behind their names, and all budgets behind theirs
unfoldable pub heading_text : ℕ → ℕ → List ℕ → List ℕ
heading_text c f bs = (copies_text ++ spaced c) ++ ((edges_text ++ spaced f) ++ (budget_text ++ (each spaced bs ++ (10 ∷ []))))
