-- The budgets and the entries, as parts of a sheet that has its header.
-- Rests on formats Budgets and Headings, entry_check Entries.
use mathlib.Core.Path.{◌≡◌, sym, ap, ap₂, ◌∙◌}
use mathlib.Core.Bool.{Bool}
use mathlib.Core.List.{List}
use Prim.Native.Nat.{ℕ, ◌+◌, ◌≤◌}
use native.Mathlib.Omega.{arith}
use lib.ListN.{length}
use Rattle.formats.specs.Limits.{least_words}
use Rattle.formats.specs.Versions.{budgets_at, budget_count, budgets_in}
use Rattle.formats.specs.BoundedSheet.{Heading, heading, entries_in}
use Rattle.formats.proofs.Budgets.{bounded-records, budgets-there}
use Rattle.formats.proofs.Headings.{read-proper}
use Rattle.entry_check.specs.Entries.{bad_entry_words}
use Rattle.bounded_check.specs.Ruled.{Listed}

module _ (s : List ℕ) (there : (heading s).records ≤ length s) where
  pub budgets-inside : budgets_at s + budget_count s ≤ length s
  budgets-inside = omega (arith, bounded-records s)

  -- an entry for each budget
  pub listed : {bs es : List ℕ} → least_words ≤ length s → 1 ≤ budget_count s → bs ≡ budgets_in s → es ≡ entries_in s → Listed s bs es
  listed long one x y =
      let P = read-proper s long there in
      let l = budgets-there s budgets-inside in
      record { budgets = x; entries = y; same = (ap length y ∙ P.same ∙ ap length (sym x), omega (arith, ap length x)) }

-- what was said of such parts
pub parts-say : (h : Heading) (s : List ℕ) {bs es : List ℕ} {r : Bool} → bs ≡ budgets_in s → es ≡ entries_in s → r ≡ bad_entry_words h s bs es
    → r ≡ bad_entry_words h s (budgets_in s) (entries_in s)
parts-say h s p q e = e ∙ ap₂ (bad_entry_words h s) p q
