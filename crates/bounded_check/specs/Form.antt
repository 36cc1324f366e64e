-- The clauses of rule 11 that go by the header and the length alone, for any header: of rising budgets the last is the one to be looked at.
-- Rests on formats Limits, Versions, BoundedSheet and Rule11.
use Rattle.std.specs.Prelude.{Bool, ◌||◌, List, ℕ, ltb}
use Rattle.formats.specs.Limits.{most_budget}
use Rattle.formats.specs.Versions.{bad_budgets}
use Rattle.formats.specs.BoundedSheet.{Heading}
use Rattle.formats.specs.Rule11.{bad_limits, wrong_length}

unfoldable pub bad_form : Heading → List ℕ → Bool
bad_form h s = bad_limits h s || (wrong_length h s || (ltb most_budget h.largest || bad_budgets s))
