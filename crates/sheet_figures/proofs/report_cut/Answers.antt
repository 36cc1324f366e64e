-- A refusal by 3.
use Rattle.calls.specs.Report.{figures}
use Rattle.sheet_figures.proofs.report_cut.Goals as goal

pub returns : goal.returns
unfolding figures
returns c = c.report_refused.ensures
