-- The budgets of a header: where they stand, and what 4 and 41 leave of them.
-- Rests on base Truth, Orders and Numbers, specs Versions.
use mathlib.Core.Path.{◌≡◌, refl}
use mathlib.Core.Bool.{Bool, true, false}
use mathlib.Core.List.{List, Memᴰ}
use Prim.Native.Nat.{ℕ, ◌+◌, ◌*◌, ◌≤◌}
use native.Mathlib.Omega.{arith}
use borrow.Author.Tests.{ltb-false, not-false}
use lib.Dec.{ltb}
use lib.ListN.{length, drop, length-drop}
use lib.Seq.{length-take-le}
use Rattle.base.specs.Lists.{rising, last_of}
use Rattle.base.specs.Checks.{outside}
use Rattle.base.proofs.Truth.{or-false, any_false}
use Rattle.base.proofs.Orders.{inside_of}
use Rattle.base.proofs.Numbers.{last-in, last-most}
use Rattle.formats.specs.Limits.{most_budget, least_budgets, most_budgets}
use Rattle.formats.specs.Words.{word}
use Rattle.formats.specs.Versions.{is_second, budgets_at, budget_count, budgets_in, bad_budget, bad_budgets, Claimed}
use Rattle.formats.specs.GraphSheet.{header}
use Rattle.formats.specs.BoundedSheet.{heading}

-- a graph sheet's records stand behind its budgets
pub graph-records : (w : List ℕ) → (header w).records ≡ budgets_at w + budget_count w
unfolding header budgets_at budget_count
graph-records w = go (is_second w) refl
  where
    go : (v : Bool) → is_second w ≡ v → (header w).records ≡ budgets_at w + budget_count w
    go true e = rw (e, header, budgets_at, budget_count)
    go false e = rw (e, header, budgets_at, budget_count)

-- so a header that names few budgets is short
pub header-few : (w : List ℕ) → budget_count w ≤ most_budgets → (header w).records ≤ 4 + most_budgets
unfolding header budget_count
header-few w few = go (is_second w) refl
  where
    go : (v : Bool) → is_second w ≡ v → (header w).records ≤ 4 + most_budgets
    go true e = let n = rw (e, budget_count) at few in rw (e, header) (omega arith)
    go false e = rw (e, header) (omega arith)

-- a bounded sheet's stand behind its budgets too, and behind the entries
pub bounded-records : (s : List ℕ) → budgets_at s + budget_count s ≤ (heading s).records
unfolding heading budgets_at budget_count
bounded-records s = go (is_second s) refl
  where
    go : (v : Bool) → is_second s ≡ v → budgets_at s + budget_count s ≤ (heading s).records
    go true e = rw (e, heading, budgets_at, budget_count) (let r : 4 + word s 3 ≤ 4 + 2 * word s 3 = omega arith in r)
    go false e = rw (e, heading, budgets_at, budget_count) (let r : 2 + 1 ≤ 3 = omega arith in r)

-- budgets that are there are so many
pub budgets-there : (w : List ℕ) → budgets_at w + budget_count w ≤ length w → length (budgets_in w) ≡ budget_count w
unfolding budgets_in
budgets-there w l = length-take-le (budget_count w) (drop (budgets_at w) w) (omega (arith, length-drop (budgets_at w) w))

-- WHAT 4 AND 41 LEAVE
pub claimed : (w : List ℕ) → budgets_at w + budget_count w ≤ length w → bad_budget w ≡ false → bad_budgets w ≡ false → Claimed (budgets_in w)
unfolding bad_budget bad_budgets
claimed w l four more =
    let p = or-false (outside least_budgets most_budgets (budget_count w)) _ more in
    record {
      count = omega (arith, budgets-there w l, inside_of least_budgets most_budgets (budget_count w) p.0);
      small = λ b m. ltb-false most_budget b (any_false (λ b. ltb most_budget b) (budgets_in w) four m);
      rise = not-false (rising (budgets_in w)) p.1;
    }

-- of such budgets the last is the largest, and one of them
module _ {bs : List ℕ} (C : Claimed bs) where
  pub largest-named : Memᴰ (last_of bs) bs
  largest-named = last-in bs (omega (arith, C.count))

  pub largest-most : (b : ℕ) → Memᴰ b bs → b ≤ last_of bs
  largest-most = last-most bs C.rise

  pub largest-small : last_of bs ≤ most_budget
  largest-small = C.small (last_of bs) largest-named
