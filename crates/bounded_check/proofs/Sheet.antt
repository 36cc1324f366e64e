-- What a sheet that keeps rule 11 has.
-- Rests on base Numbers, formats Budgets and RuleRead, specs Ruled, Header.
use Rattle.std.proofs.Common.{◌≡◌, ap, ℕ, ◌≤◌, ◌-◌, List, length, arith, slice_index_or}
use Rattle.base.specs.Lists.{nth}
use Rattle.base.proofs.Numbers.{nth_in}
use Rattle.formats.specs.Limits.{least_words, most_budget}
use Rattle.formats.specs.Versions.{budget_count, budgets_in}
use Rattle.formats.specs.BoundedSheet.{Heading, heading}
use Rattle.formats.specs.Rule11.{Ruled}
use Rattle.formats.proofs.Budgets.{budgets-there}
use Rattle.formats.proofs.RuleRead.{clauses, read-ruled}
use Rattle.bounded_check.specs.Ruled.{IsRuled}
use Rattle.bounded_check.proofs.Header.{budgets-inside}

module _ {h : Heading} {bs es w : List ℕ} (S : IsRuled h bs es w) where
  pub ruled : Ruled h w
  ruled = read-ruled w S.kept S.header

  pub budget_is : (k : ℕ) → 1 ≤ k → k ≤ length bs → (slice_index_or bs (k - 1) 0 ≡ nth (budgets_in w) k) × (slice_index_or bs (k - 1) 0 ≤ most_budget)
  budget_is k p q =
      let e : nth bs k ≡ nth (budgets_in w) k = ap (λ (l : List ℕ). nth l k) S.listed.budgets in
      let m = nth_in (budgets_in w) k p (omega (arith, q, ap length S.listed.budgets)) in
      (e, omega (arith, e, (clauses w S.kept).claims.small (nth (budgets_in w) k) m))

  -- the header is there, and the number is one of its budgets
  pub header_is : (least_words ≤ length w) × ((heading w).records ≤ length w)
  header_is = let C = clauses w S.kept in (C.long, C.there)

  pub number_in : (k : ℕ) → 1 ≤ k → k ≤ length bs → (1 ≤ k) × (k ≤ budget_count w)
  number_in k p q = (p, omega (arith, q, ap length S.listed.budgets, budgets-there w (budgets-inside w header_is.1)))
