-- The budgets are the sheet's.
use Rattle.bounded_check.proofs.Sheet.{budget_is}
use Rattle.bounded_check.proofs.RuledSheet.budget.Goals as goal

pub returns : goal.returns
returns c = budget_is c.args.self.ruled _ c.requires.0 c.requires.1
