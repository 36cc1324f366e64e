-- Sample sheets for rows: the graph sheets of document 01's examples, and two bounded sheets; files and texts by their bytes.
-- Rests on base Lists.
use Rattle.std.specs.Prelude.{List, [], ◌∷◌, ◌++◌, ℕ, ◌/◌, ◌%◌, length}
use Prim.Native.Char.{code}
use Prim.Native.String.{String, [] as end, ◌∷◌ as ◌then◌}
use Rattle.base.specs.Lists.{each}

-- the document's example: costs 0, 0, 2, 1, 4, 1, 1, 5; successors 1: 3; 3: 4, 5; 4: 6; 5: 6; 6: 7, 8; 7: 2; 8: 2
unfoldable pub paper : ℕ → List ℕ
paper b =
    8 ∷ 9 ∷ b
    ∷ 0 ∷ 1 ∷ 0 ∷ 0 ∷ 2 ∷ 2 ∷ 1 ∷ 4 ∷ 4 ∷ 5 ∷ 1 ∷ 6 ∷ 1 ∷ 8 ∷ 5 ∷ 9
    ∷ 3 ∷ 0 ∷ 4 ∷ 3 ∷ 5 ∷ 0 ∷ 6 ∷ 0 ∷ 6 ∷ 0 ∷ 7 ∷ 7 ∷ 8 ∷ 0 ∷ 2 ∷ 0 ∷ 2 ∷ 0 ∷ []

-- block 3, cost 3, to itself and to the exit
unfoldable pub loop : ℕ → List ℕ
loop b = 3 ∷ 3 ∷ b ∷ 0 ∷ 1 ∷ 0 ∷ 0 ∷ 3 ∷ 2 ∷ 3 ∷ 0 ∷ 3 ∷ 3 ∷ 2 ∷ 0 ∷ []

-- the same in the second version, with these budgets, and with another number for theirs
unfoldable pub loop_saying : ℕ → List ℕ → List ℕ
loop_saying k bs = 0 ∷ 3 ∷ 3 ∷ k ∷ (bs ++ (0 ∷ 1 ∷ 0 ∷ 0 ∷ 3 ∷ 2 ∷ 3 ∷ 0 ∷ 3 ∷ 3 ∷ 2 ∷ 0 ∷ []))

abbrev pub loop_with : List ℕ → List ℕ
loop_with bs = loop_saying (length bs) bs

-- block 3, cost 1, twice to the exit
unfoldable pub twice : List ℕ
twice = 3 ∷ 3 ∷ 1 ∷ 0 ∷ 1 ∷ 0 ∷ 0 ∷ 1 ∷ 2 ∷ 3 ∷ 0 ∷ 2 ∷ 3 ∷ 2 ∷ 0 ∷ []

-- the start, the exit and one edge
unfoldable pub least : List ℕ
least = 2 ∷ 1 ∷ 0 ∷ 0 ∷ 1 ∷ 0 ∷ 0 ∷ 2 ∷ 0 ∷ []

-- the bounded sheets of the document's example at 9, and of the loop at 6
unfoldable pub nine : List ℕ
nine =
    9 ∷ 11 ∷ 9
    ∷ 1 ∷ 9 ∷ 1 ∷ 2 ∷ 0 ∷ 0 ∷ 3 ∷ 9 ∷ 2 ∷ 4 ∷ 7 ∷ 4 ∷ 5 ∷ 6 ∷ 5 ∷ 6 ∷ 2 ∷ 6 ∷ 6 ∷ 6 ∷ 8 ∷ 7 ∷ 1 ∷ 10 ∷ 8 ∷ 5 ∷ 11
    ∷ 3 ∷ 0 ∷ 4 ∷ 3 ∷ 5 ∷ 0 ∷ 7 ∷ 0 ∷ 6 ∷ 0 ∷ 8 ∷ 7 ∷ 0 ∷ 0 ∷ 8 ∷ 9 ∷ 9 ∷ 0 ∷ 2 ∷ 0 ∷ 2 ∷ 0 ∷ []

unfoldable pub six : List ℕ
six = 4 ∷ 5 ∷ 6 ∷ 1 ∷ 6 ∷ 1 ∷ 2 ∷ 0 ∷ 0 ∷ 3 ∷ 3 ∷ 2 ∷ 3 ∷ 6 ∷ 4 ∷ 4 ∷ 0 ∷ 0 ∷ 3 ∷ 2 ∷ 0 ∷ 3 ∷ 5 ∷ 2 ∷ 0 ∷ []

-- the bounded sheet of the loop with the budgets 3 and 7: two start copies, with the lows 3 and 6, and the exit behind them
unfoldable pub three_seven : List ℕ
three_seven =
    0 ∷ 5 ∷ 6 ∷ 2 ∷ 3 ∷ 7 ∷ 1 ∷ 2
    ∷ 1 ∷ 3 ∷ 1 ∷ 1 ∷ 6 ∷ 2 ∷ 2 ∷ 0 ∷ 0 ∷ 3 ∷ 3 ∷ 3 ∷ 3 ∷ 6 ∷ 5
    ∷ 4 ∷ 0 ∷ 5 ∷ 0 ∷ 0 ∷ 4 ∷ 3 ∷ 0 ∷ 4 ∷ 6 ∷ 3 ∷ 0 ∷ []

-- a file: each word as two bytes, the lower first
unfoldable pub in_bytes : List ℕ → List ℕ
in_bytes w = each (λ x. x % 256 ∷ x / 256 ∷ []) w

-- a text's bytes, and lines of it
unfoldable pub text : String → List ℕ
text end = []
text (c then cs) = code c ∷ text cs

unfoldable pub lines : List String → List ℕ
lines ls = each (λ l. text l ++ (10 ∷ [])) ls
