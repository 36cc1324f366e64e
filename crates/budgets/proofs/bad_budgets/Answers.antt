-- Condition 41 by the part in which the budgets stand: their number, then whether they rise.
use Rattle.std.proofs.Common.{sym, ◌∙◌}
use Rattle.budgets.proofs.Places.{few-or-many, number_fits}
use Rattle.budgets.proofs.bad_budgets.Goals as goal

pub returns-then-is_outside : goal.returns-then-is_outside
returns-then-is_outside c = few-or-many _ c.budgets_part-budgets.ensures c.requires.1 (sym c.is_outside.ensures ∙ c.if-is_outside.true)

pub returns : goal.returns
returns c =
    number_fits _ c.budgets_part-budgets.ensures c.requires.1 (sym c.is_outside.ensures ∙ c.if-is_outside.false)
    c.is_rising.ensures
