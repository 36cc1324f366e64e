-- No mark, and the line.
use Rattle.sheet_figures.proofs.Said.{refused_says, refused-small}
use Rattle.sheet_figures.proofs.report_refused.Goals as goal

pub returns : goal.returns
returns c = (refused_says c.requires.number_nonzero.0 c.mark_first.ensures c.write_refused-size.ensures, refused-small _)
