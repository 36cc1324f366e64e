-- What is shown, by notions that are not its own: an odd file is shown as it is listed, and no file that is refused for its length is a sheet.
-- Rests on formats Versions, Budgets, Accepted and RuleRead, calls Program, specs Shown.
use mathlib.Core.Path.{◌≡◌, refl}
use mathlib.Core.Bool.{Bool, true, false}
use mathlib.Core.List.{List}
use Prim.Native.Nat.{ℕ, ◌+◌, ◌*◌, ◌≤◌, ◌<◌}
use native.Mathlib.Omega.{arith}
use lib.ListN.{length}
use Rattle.formats.specs.Limits.{most_budgets}
use Rattle.formats.specs.Versions.{is_second, budget_count}
use Rattle.formats.specs.File.{odd_bytes}
use Rattle.formats.specs.GraphSheet.{sheet_refusal}
use Rattle.formats.specs.BoundedSheet.{heading}
use Rattle.formats.specs.Rule11.{bounded_refusal}
use Rattle.formats.proofs.Budgets.{bounded-records, header-few, budgets-there}
use Rattle.formats.proofs.Accepted.{accepted}
use Rattle.formats.proofs.RuleRead.{clauses}
use Rattle.calls.specs.Program.{listing}
use Rattle.show.specs.Shown.{most_shown, shown}

pub odd-as-listed : (bs : List ℕ) → odd_bytes bs ≡ true → shown bs ≡ listing bs
unfolding shown listing
odd-as-listed bs e = rw (e, shown, listing)

-- a header that names few budgets is short
heading-few : (s : List ℕ) → budget_count s ≤ most_budgets → (heading s).records ≤ 4 + 2 * most_budgets
unfolding heading budget_count
heading-few s few = go (is_second s) refl
  where
    go : (v : Bool) → is_second s ≡ v → (heading s).records ≤ 4 + 2 * most_budgets
    go true e = let n = rw (e, budget_count) at few in rw (e, heading) (omega arith)
    go false e = rw (e, heading) (omega arith)

pub no-graph : (w : List ℕ) → most_shown < length w → sheet_refusal w ≡ 0 → ⊥
no-graph w l ok =
    let A = accepted w ok in
    let F = A.sound.form in
    let few : budget_count w ≤ most_budgets = omega (arith, budgets-there w A.there, A.claims.count) in
    omega (arith, header-few w few, F.size, F.blocks, F.edges)

pub no-bounded : (s : List ℕ) → most_shown < length s → bounded_refusal s ≡ 0 → ⊥
no-bounded s l ok =
    let C = clauses s ok in
    let F = C.ruled.form in
    let few : budget_count s ≤ most_budgets = omega (arith, budgets-there s (omega (arith, bounded-records s, C.there)), C.claims.count) in
    omega (arith, heading-few s few, F.size, F.copies, F.edges)
