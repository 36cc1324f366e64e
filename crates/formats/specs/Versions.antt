-- THE TWO VERSIONS of a sheet (document 02, K2: editions), told by the first word, the budgets that both kinds of sheet name in their header, and
-- the budgets of a graph sheet less the handler's cost (K6).
-- Rests on base Lists and Checks, Limits, Words.
use Rattle.std.specs.Prelude.{◌≡◌, Bool, true, false, ◌||◌, not, ℕ, ◌-◌, ◌≤◌, ltb, eqb, length, take, drop}
use mathlib.Core.List.{List, map, Memᴰ}
use Rattle.base.specs.Lists.{any, rising, last_of, nth}
use Rattle.base.specs.Checks.{outside}
use Rattle.formats.specs.Limits.{most_budget, least_budgets, most_budgets}
use Rattle.formats.specs.Words.{word}

-- "An edition-two graph sheet begins 0"; a sheet of the first version begins with its number of blocks or copies
unfoldable pub is_second : List ℕ → Bool
is_second w = eqb (word w 0) 0

-- where the budgets stand: "N blocks, E edges, budget B", and "0, N, E, the number of budgets, the budgets"
unfoldable pub budgets_at : List ℕ → ℕ
budgets_at w = elim (is_second w) [ true ↦ 4 | false ↦ 2 ]

unfoldable pub budget_count : List ℕ → ℕ
budget_count w = elim (is_second w) [ true ↦ word w 3 | false ↦ 1 ]

-- the budgets, a part of the sheet, and the largest and the smallest of them: the last and the first, where they rise
unfoldable pub budgets_in : List ℕ → List ℕ
budgets_in w = take (budget_count w) (drop (budgets_at w) w)

abbrev pub largest_in : List ℕ → ℕ
largest_in w = last_of (budgets_in w)

abbrev pub smallest_in : List ℕ → ℕ
smallest_in w = nth (budgets_in w) 1

-- 4: "B above 500"; "4 tests each"
unfoldable pub bad_budget : List ℕ → Bool
bad_budget w = any (λ b. ltb most_budget b) (budgets_in w)

-- 41: "a number of budgets outside 1 to 4 or budgets not strictly rising"
unfoldable pub bad_budgets : List ℕ → Bool
bad_budgets w = outside least_budgets most_budgets (budget_count w) || not (rising (budgets_in w))

-- THE HANDLER'S COST h (document 02, K6): "Every budget is lowered by h", which is cut off at 0 nowhere once 43 is passed
unfoldable pub lowered : ℕ → List ℕ → List ℕ
lowered h bs = map (λ b. b - h) bs

-- 43: "h above the smallest budget"
unfoldable pub bad_handler : ℕ → List ℕ → Bool
bad_handler h w = ltb (smallest_in w) h

-- WHAT 4 AND 41 LEAVE of budgets that are all there
pub record Claimed (bs : List ℕ) : Type 0 where
  pub count : (least_budgets ≤ length bs) × (length bs ≤ most_budgets)
  pub small : (b : ℕ) → Memᴰ b bs → b ≤ most_budget
  pub rise : rising bs ≡ true
