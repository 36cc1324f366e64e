-- The clauses on the header and the length in their order.
use Rattle.std.proofs.Common.{refl, sym, ◌∙◌, true, false, lt-ltb, le-ltb}
use Rattle.formats.specs.Rule11.{bad_limits}
use Rattle.bounded_check.proofs.Rule.{form-is, length-differs, length-fits, budgets-stand}
use Rattle.bounded_check.proofs.bad_form.Goals as goal

pub returns-then-bad_limits : goal.returns-then-bad_limits
unfolding bad_limits
returns-then-bad_limits c = form-is _ _ true _ _ _ (sym c.bad_limits.ensures ∙ c.if-bad_limits.true) refl refl refl

pub returns-then-words-header : goal.returns-then-words-header
unfolding bad_limits
returns-then-words-header c =
    form-is _ _ false true _ _ (sym c.bad_limits.ensures ∙ c.if-bad_limits.false) (length-differs _ _ c.if-words-header.true) refl refl

pub returns-then-header-gt-MOST_BUDGET : goal.returns-then-header-gt-MOST_BUDGET
unfolding bad_limits
returns-then-header-gt-MOST_BUDGET c =
    form-is _ _ false false true _ (sym c.bad_limits.ensures ∙ c.if-bad_limits.false) (length-fits _ _ c.if-words-header.false)
    (lt-ltb _ _ c.if-header-gt-MOST_BUDGET.true) refl

pub bad_budgets-requires : goal.bad_budgets-requires
bad_budgets-requires c = let p = c.requires.header in (p.0, budgets-stand _ p.1 c.if-words-header.false)

pub returns : goal.returns
unfolding bad_limits
returns c =
    form-is _ _ false false false _ (sym c.bad_limits.ensures ∙ c.if-bad_limits.false) (length-fits _ _ c.if-words-header.false)
    (le-ltb _ _ c.if-header-gt-MOST_BUDGET.false) (sym c.bad_budgets.ensures)
